-- The bytes of a line, and which tokens are names.
use Rattle.std.specs.Prelude.{ℕ, Bool, false, not, ◌&&◌, ◌||◌, nat_le, ◌==◌, List, [], ◌∷◌, length, codes}
use Rattle.std.specs.List.{list_any, list_all}
use Rattle.std.specs.Str.{bytes_eq}

-- whether the token is this text
infix 8 ◌is◌
abbrev pub ◌is◌ : List ℕ → List ℕ → Bool
token is text = bytes_eq token text

-- whether the byte lies from low to high
abbrev pub is_between : ℕ → ℕ → ℕ → Bool
is_between low high b = nat_le low b && nat_le b high

-- A to Z and a to z
abbrev pub is_letter : ℕ → Bool
is_letter b = is_between 65 90 b || is_between 97 122 b

-- letters, digits, the underline and the apostrophe
abbrev pub is_name_byte : ℕ → Bool
is_name_byte b = is_letter b || is_between 48 57 b || b == 95 || b == 39

-- the parentheses and the equals sign
abbrev pub is_sign : ℕ → Bool
is_sign b = b == 40 || b == 41 || b == 61

-- the space and the tab
abbrev pub is_space : ℕ → Bool
is_space b = b == 32 || b == 9

-- the words that are no names
abbrev pub keywords : List (List ℕ)
keywords = codes "construction" ∷ codes "rank" ∷ codes "free" ∷ codes "point" ∷ codes "line" ∷ codes "plane"
    ∷ codes "join" ∷ codes "meet" ∷ codes "on" ∷ codes "with" ∷ codes "pascal" ∷ codes "through"
    ∷ codes "conclude" ∷ codes "collinear" ∷ codes "concurrent" ∷ codes "coplanar" ∷ codes "meeting"
    ∷ codes "incident" ∷ codes "conic" ∷ []

-- whether it is a keyword
unfoldable pub is_keyword : List ℕ → Bool
is_keyword token = list_any (λ word. word is token) keywords

-- whether a letter comes first
abbrev pub begins_with_letter : List ℕ → Bool
begins_with_letter [] = false
begins_with_letter (b ∷ bytes) = is_letter b

-- whether these bytes are a name: at most 32 name bytes, of which the first is a letter, and no keyword
unfoldable pub is_name : List ℕ → Bool
is_name bytes =
    begins_with_letter bytes && nat_le (length bytes) 32 && list_all is_name_byte bytes && not (is_keyword bytes)

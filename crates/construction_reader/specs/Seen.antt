-- What a construction says.
use Rattle.construction_reader.specs.declared.construction.Construction.{Construction}
use Rattle.construction_reader.specs.Said.{Account, account_of}

-- what the construction says
abbrev pub account : Construction → Account
account c = account_of c.rank c.statements

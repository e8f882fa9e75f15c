mod Fronts
mod Known

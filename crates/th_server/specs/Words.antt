-- Which words of the command line ask to serve.
use Rattle.std.specs.Prelude.{ℕ, Bool, false, List, ◌∷◌, codes}
use Rattle.std.specs.Str.{bytes_eq}

-- the word behind the program's name is `serve`
abbrev pub asks_to_serve : List (List ℕ) → Bool
asks_to_serve (name ∷ mode ∷ more) = bytes_eq mode (codes "serve")
asks_to_serve words = false

-- Histories whose replies are those that the definitions give.
use Rattle.std.specs.Prelude.{◌≡◌, List, [], ◌∷◌, map}
use Rattle.node_laws.specs.Imports.{Entry, History, Response, Rules, answer}

-- the answers to the calls of these entries, the oldest first, each after the entries before it
abbrev pub answers : Rules → History → List Entry → List Response
answers node h [] = []
answers node h (e ∷ entries) = answer node h e.who e.invocation ∷ answers node (e ∷ h) entries

-- Each of these entries, the oldest first, has the response that the definitions give.
abbrev pub Plays : Rules → List Entry → Type 0
Plays node entries = answers node [] entries ≡ map (λ e. e.response) entries

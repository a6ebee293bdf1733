-- The last entry of a legal history whose oldest entry stands first.
use Rattle.dmx_calls.proofs.Imports.{List, [], ◌∷◌, ◌++◌, reverse, subst, reverse-append, Entry, Rules, IsLegalFor, May}

-- the entries before it allow its response, and are themselves legal
pub last_may : (node : Rules) (h : List Entry) (e : Entry) → IsLegalFor node (reverse (h ++ e ∷ [])) → IsLegalFor node (reverse h) × May node (reverse h) e.who e.invocation e.response
last_may node h e legal = subst (IsLegalFor node) (reverse-append h (e ∷ [])) legal

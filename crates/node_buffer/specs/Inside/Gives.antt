-- What a reply must be, by what is known before the call and with it.
use Rattle.std.specs.Prelude.{ℕ, ◌≡◌, Bool, true, false, ◌⊎◌, Option, None, if◌then◌else◌}
use Rattle.node_buffer.specs.Imports.{Close, Errno, Facts, Invocation, NoMemory, NodeKind, Response, answer_by, is_done, is_same_size, refusal, state_of, takes_memory}

-- this answer, or want of memory in its place
abbrev pub OrNoMemory : Facts → Invocation → (answer : Response) → Response → Type 0
OrNoMemory f call answer r = (r ≡ answer) ⊎ (r ≡ NoMemory) × (is_done answer ≡ true) × (takes_memory f call ≡ true)

-- the answer of a node of this kind, or want of memory: f is known before the call, and g with it
abbrev pub GivesBy : NodeKind → (f g : Facts) → (who : ℕ) → Invocation → Response → Type 0
GivesBy kind f g who call r = OrNoMemory f call (answer_by kind f g who call) r

-- why the owner of a node that says this is refused a call, if it is
abbrev pub owner_refusal : NodeKind → Facts → Invocation → Option Errno
owner_refusal kind f call = if is_same_size f call then None else refusal kind (state_of f) f.params f.pids call

-- the call that ends what a node keeps for its owner
abbrev pub is_close : Invocation → Bool
is_close Close = true
is_close _ = false

-- The ledger after bytes are read, by what the ring holds before.
use Rattle.node_buffer.proofs.Imports.{rules, ◌≡◌, ◌≤◌, List, ℕ, Some, length, drop, CaptureHolds, ◌+◌, ap, Bool, true, false, Option, None, arith, length-drop, option_map, Lost, Capture, misfit_of, ledger_of, RingFits, UnreadFits, Coherent}
use Rattle.node_buffer.proofs.buffer.Buffer.read_bytes.Goals as goal

fits_read : (keeps : Bool) (o : Option Lost) (unread : List ℕ) (answered total most : ℕ) → answered ≤ total → RingFits keeps o unread answered total → most ≤ length unread
    → (answered + most ≤ total) × UnreadFits (option_map misfit_of o) (drop most unread) (answered + most) total
fits_read keeps None unread answered total most le fits within = (omega (arith, le, fits, within), omega (arith, le, fits, within, length-drop most unread))
fits_read true (Some x) unread answered total most le fits within =
    (omega (arith, fits.0, fits.1, within), (omega (arith, fits.0, within, length-drop most unread), fits.1))
fits_read false (Some x) unread answered total most le fits within =
    let none : length unread ≡ 0 = ap length fits.0 in
    (omega (arith, le, none, within), (omega (arith, none, within, fits.1, length-drop most unread), fits.2))

-- so many bytes are taken from the ring
pub coherent_read : (keeps : Bool) (c : Capture) (unread left : List ℕ) (most rest : ℕ) → CaptureHolds keeps (Some c) unread → most ≤ length unread → left ≡ drop most unread
    → Coherent (ledger_of left (record c { answered = c.answered + most; rest = rest }))
coherent_read keeps c unread left most rest holds within is =
    let k = fits_read keeps c.over unread c.answered c.total most holds.0 holds.2 within in
    record { answered = k.0; unread = rw is k.1; count = holds.1 }

-- src/buffer.rt:286:5
pub returns-clause-holds : goal.returns-clause-holds
returns-clause-holds c =
    let unread : List ℕ = c.self.inside.ring.bytes in
    let most : ℕ = c.most_bytes-most.result in
    let holds : CaptureHolds c.self.inside.terms.keeps (Some c.in-Some.capture) unread = rw c.in-Some.is at c.self.invariant in
    let within : most ≤ length unread = search rules in
    let left : c.fill.new.ring.bytes ≡ drop most unread = search rules in
    coherent_read c.self.inside.terms.keeps c.in-Some.capture unread c.fill.new.ring.bytes most c.rest_behind-capture.result holds within left

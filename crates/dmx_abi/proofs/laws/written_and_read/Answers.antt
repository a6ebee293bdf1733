-- The bytes read are the argument that was written, which asks for the request.
use Rattle.std.proofs.Common.{◌≡◌, ℕ, ◌-◌, ◌++◌, take, ap, ◌∙◌, sym, subst, length, List}
use Rattle.std.proofs.Math.Seq.{take-append_seam}
use Rattle.dmx_abi.specs.Layout.{Spells}
use Rattle.dmx_abi.specs.Written.{argument_of as argument_of_request, number_of as number_of_request}
use Rattle.dmx_abi.specs.declared.request.Request.{Request}
use Rattle.dmx_abi.proofs.Written.{written_spells}
use Rattle.dmx_abi.proofs.laws.written_and_read.Goals as goal

front : (argument out rest : List ℕ) (n : ℕ) → n ≡ length argument → out ≡ argument ++ rest → take n out ≡ argument
front argument out rest n len same =
    ap (λ k. take k out) len ∙ ap (λ xs. take (length argument) xs) same ∙ take-append_seam argument rest

spelled : (r : Request) (number n : ℕ) (out rest : List ℕ) → Spells (number_of_request r) (argument_of_request r) r
    → number ≡ number_of_request r → n ≡ length (argument_of_request r) → out ≡ argument_of_request r ++ rest
    → Spells number (take n out) r
spelled r number n out rest s a b e =
    let P : ℕ → Type 0 = λ k. Spells k (take n out) r in
    let Q : List ℕ → Type 0 = λ xs. Spells (number_of_request r) xs r in
    subst P (sym a) (subst Q (sym (front (argument_of_request r) out rest n b e)) s)

pub returns : goal.returns
returns c =
    let r : Request = c.args.request.now in
    c.decode.ensures.whole r
    (spelled r c.encode-number.result.0 c.encode-number.result.1 c.encode-number.new.out _
    (written_spells r c.encode-number.ensures.fits) c.encode-number.ensures.number c.encode-number.ensures.len
    c.encode-number.ensures.written)

-- What is read of the bytes that were written, field by field.
use Rattle.seats.proofs.Imports.{◌≡◌, ◌<◌, ◌^◌, ℕ, List, [], ap, ◌∙◌, little_number-reads_back, field, Tell, tell, head_of}
use Rattle.seats.proofs.serve_frames.laws.written_and_read.Goals as goal

module _ (t : Tell) (len : ℕ) (f : (t.code < 2 ^ 32) × (t.value < 2 ^ 32) × (t.place < 2 ^ 64) × (len < 2 ^ 32)) where
  told : tell (field 0 4 (head_of t len)) (field 8 4 (head_of t len)) (field 16 8 (head_of t len)) ≡ t
  told =
      ap (λ n. tell n (field 8 4 (head_of t len)) (field 16 8 (head_of t len))) (little_number-reads_back 4 t.code [] f.0)
      ∙ (ap (λ n. tell t.code n (field 16 8 (head_of t len))) (little_number-reads_back 4 t.value [] f.1)
      ∙ ap (λ n. tell t.code t.value n) (little_number-reads_back 8 t.place [] f.2))

  long : field 4 4 (head_of t len) ≡ len
  long = little_number-reads_back 4 len [] f.3

pub returns : goal.returns
returns c =
    let t : Tell = c.args.told.now in
    let bytes = c.copy_from_slice.ensures.after ∙ c.as_slice.ensures.value ∙ c.head-written.ensures in (
      c.read.ensures.told ∙ ap (λ (b : List ℕ). tell (field 0 4 b) (field 8 4 b) (field 16 8 b)) bytes ∙ told t c.args.len c.fits.ensures,
      c.read.ensures.len ∙ ap (λ (b : List ℕ). field 4 4 b) bytes ∙ long t c.args.len c.fits.ensures,
    )

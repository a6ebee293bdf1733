-- what is written stands in front, and the zeros behind it are those that it has not taken
use Rattle.std.proofs.Common.{◌≡◌, ℕ, ◌-◌, ◌++◌, drop, replicate, ap, ◌∙◌, length, List}
use Rattle.std.proofs.lemmas.List.{drop-replicate}
use Rattle.dmx_abi.specs.Written.{argument_of as argument_of_request}
use Rattle.dmx_abi.proofs.writer.encode.Goals as goal

fits : (argument written : List ℕ) (n : ℕ) → written ≡ argument → n ≡ length argument
    → written ++ drop n (replicate 60 0) ≡ argument ++ replicate (60 - length argument) 0
fits argument written n same len =
    ap (λ xs. xs ++ drop n (replicate 60 0)) same
    ∙ ap (λ xs. argument ++ xs) (drop-replicate {X = ℕ} n 60 0 ∙ ap (λ k. replicate {A = ℕ} (60 - k) 0) len)

pub returns-clause-written : goal.returns-clause-written
returns-clause-written c =
    let argument : List ℕ = argument_of_request c.args.request.now in
    fits argument c.copy_from_slice.new.self c.len.result
    (c.copy_from_slice.ensures.after ∙ c.as_slice.ensures.value ∙ c.argument_of-written.ensures)
    (c.len.ensures.value ∙ ap (λ (xs : List ℕ). length xs) c.argument_of-written.ensures)

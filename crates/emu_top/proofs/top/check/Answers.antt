use Rattle.emu_top.proofs.Imports.{refl, codes, true, false, rules, Judges}
use Rattle.emu_top.proofs.Judging.{answers_no, answers_yes}
use Rattle.emu_top.proofs.top.check.Goals as goal

pub returns-in-Ok-None-clause-answers : goal.returns-in-Ok-None-clause-answers
returns-in-Ok-None-clause-answers g c =
    let judged : Judges true c.args.size (g.S.Source.end c.args.source.now) (g.S.Source.end c.wrong_in.new.source) = search rules in
    answers_yes c.args.size (g.S.Source.end c.args.source.now) _ _ _ _ (codes "yes\n") c.write_text.result refl judged (c.write_text.ensures.tells _)

pub returns-in-Ok-Some-clause-answers : goal.returns-in-Ok-Some-clause-answers
returns-in-Ok-Some-clause-answers g c =
    let judged : Judges false c.args.size (g.S.Source.end c.args.source.now) (g.S.Source.end c.wrong_in.new.source) = search rules in
    rw c.wrong_by.ensures (answers_no c.args.size (g.S.Source.end c.args.source.now) _ _ _ _ (codes "no\n") c.in-Ok-Some.fault c.write_text-in-Ok-Some.result refl judged (c.write_text-in-Ok-Some.ensures.tells _))

-- What no session shows, worked out by hand: the words that a place leaves, and how lines are spelled. The sessions of
-- examples/rows have lines and scripts with their faults.
use Rattle.std.specs.Prelude.{◌≡◌, [], ◌∷◌, ◌++◌, map, replicate, Ok, Err, codes}
use Rattle.client_script.specs.Imports.{Frontend, TsTap, number_between}
use Rattle.client_script.specs.Words.{next_as}
use Rattle.client_script.specs.Spelling.{spelling}
use Rattle.client_script.specs.declared.fault.FaultKind.TheVariants.{Number, Count}
use Rattle.client_script.specs.declared.wanted.NumberName.TheVariants.{N}
use Rattle.client_script.specs.declared.wanted.WantedWord.TheVariants as wanted
use Rattle.client_script.specs.declared.line.Line.TheVariants.{Feed, Tick, Command}
use Rattle.client_script.specs.declared.line.Target.TheVariants.{Node, Slot, Dvr}
use Rattle.client_script.specs.declared.line.Verb.TheVariants.{Once, ReadWait, GetStc, Write}
use Rattle.client_script.specs.declared.line.Want.TheVariants.{Open, Section, Pes}

-- a number from 1 to 9, in front of another word; where another word stands; and where none is left
abbrev pub OneWord : Type 0
OneWord =
    (next_as Number (wanted.Number N 1 9) (number_between 1 9) (codes "7" ∷ codes "x" ∷ []) ≡ Ok (7, codes "x" ∷ []))
    × (next_as Number (wanted.Number N 1 9) (number_between 1 9) (codes "x" ∷ codes "7" ∷ [])
    ≡ Err (record { kind = Number; wanted = wanted.Number N 1 9 }, codes "7" ∷ []))
    × (next_as Number (wanted.Number N 1 9) (number_between 1 9) []
    ≡ Err (record { kind = Count; wanted = wanted.Number N 1 9 }, []))

-- Lines with their line feeds, where client 1 writes 00 ff. A request that asks for a call is spelled as its command; the
-- counter's has no other, and all bytes behind its number are 0.
abbrev pub Spellings : Type 0
Spellings =
    map (spelling ([] ∷ ((0 ∷ 255 ∷ []) ∷ []) ∷ [])) (
    Feed 1
    ∷ Tick 0
    ∷ Command 5 7 Dvr (Once Open)
    ∷ Command 5 1 (Slot 31) (ReadWait 65536)
    ∷ Command 5 0 (Node 0) (Once (Section (record {
      pid = 1;
      filter = record {
        filter = 0 ∷ 0 ∷ 0 ∷ 10 ∷ replicate 12 0;
        mask = 0 ∷ 0 ∷ 0 ∷ 255 ∷ replicate 12 0;
        mode = replicate 16 0;
      };
      timeout = 0;
      flags = 0;
    })))
    ∷ Command 5 4 (Node 4) (Once (Pes (record {
      pid = 256;
      input = Frontend;
      output = TsTap;
      pes_type = 20;
      flags = 0;
    })))
    ∷ Command 5 0 (Slot 3) (GetStc 1)
    ∷ Command 5 1 Dvr (Write 0)
    ∷ [])
    ≡ map (λ line. line ++ 10 ∷ []) (
    codes "feed 1"
    ∷ codes "tick 0"
    ∷ codes "c7 open dvr"
    ∷ codes "c1 readw h31 65536"
    ∷ codes "c0 section n0 1 0 0 3=0a/ff/00"
    ∷ codes "c4 pes n4 256 frontend ts_tap 20 0"
    ∷ codes "c0 ioctl h3 c0106f32 01000000000000000000000000000000"
    ∷ codes "c1 write dvr 00ff"
    ∷ [])

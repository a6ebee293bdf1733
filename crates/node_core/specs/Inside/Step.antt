-- How a demux node goes on with an accepted call. The proofs alone use it: no public contract cites it.
use Rattle.std.specs.Prelude.{ℕ, ◌-◌, Bool, true, not, ◌&&◌, nat_eq, if◌then◌else◌, List, [], ◌∷◌, filter, Option, Some, None, is_some, option_map}
use Rattle.node_core.specs.Imports.{AddPid, Close, DEMUX_SIZE, Empty, End, Facts, IMMEDIATE_START, Input, Invocation, Ledger, Nothing, Open, Params, Pass, Pes, Poll, Read, RemovePid, Response, Section, Selecting, SetFilter, SetPes, SetSize, Start, Stop, begun as begun_selecting, begun_again, has_flag, has_had_its_section, is_accepted, is_named, is_same_input, is_section, items_found, kept_after, timeout_of, with_pid, without_pid}
use Rattle.node_buffer.specs.Inside.Capturing.{begun, terms_of, with_items, expiring, with_response, with_stop}
use Rattle.node_core.specs.Offers.{choice_of, input_of}

-- what a node knows: what its history says to the next call, and what its selector keeps
pub record Knows : Type 0 where
  pub facts : Facts
  pub selecting : Selecting

-- the selector of a node without a filter
abbrev pub unset : Selecting
unset = begun_selecting Nothing

-- a node that was just opened by this owner, or a free one: it has the default size, no filter, and nothing to select
abbrev pub bare : (has_ended : Bool) → (owner : Option ℕ) → Knows
bare has_ended owner = record {
  facts = record { has_ended = has_ended; owner = owner; size = DEMUX_SIZE; params = Empty; pids = []; ledger = None };
  selecting = unset;
}

-- the packets of a pass are offered: the filter runs, and they come from its input
abbrev pub is_taking : Params → Input → Ledger → Bool
is_taking set input l =
    is_same_input input (input_of set) &&
    (not l.is_stopped && (not (is_some l.expired) && not (has_had_its_section set l.count)))

-- the capture after a pass that brings these packets that its PIDs name, once it may have expired the filter
abbrev pub passed : Params → (capacity : ℕ) → Input → List (List ℕ) → Selecting → Ledger → Ledger
passed set capacity input packets s l =
    if is_taking set input l then with_items (terms_of set) capacity l (items_found s packets) else l

-- the selector after it
abbrev pub passed_by : Params → Input → List (List ℕ) → Selecting → Option Ledger → Selecting
passed_by set input packets s None = s
passed_by set input packets s (Some l) = if is_taking set input l then kept_after s packets else s

-- a filter is set; it starts at once where the flag is there
abbrev pub with_filter : Facts → Params → List ℕ → (flags now : ℕ) → Facts
with_filter f set names flags now =
    record f { params = set; pids = names; ledger = if has_flag IMMEDIATE_START flags then Some (begun now) else None }

-- an accepted call with this response
abbrev pub moved : Knows → (who : ℕ) → Invocation → Response → Knows
moved k who Open r = bare k.facts.has_ended (Some who)
moved k who Close r = bare k.facts.has_ended None
moved k who (SetFilter p now) r = record {
  facts = with_filter k.facts (Section p) (p.pid ∷ []) p.flags now;
  selecting = begun_selecting (choice_of (Section p));
}
moved k who (SetPes p now) r = record {
  facts = with_filter k.facts (Pes p) (p.pid ∷ []) p.flags now;
  selecting = begun_selecting (choice_of (Pes p));
}
moved k who (AddPid pid) r = record k { facts = record k.facts { pids = with_pid pid k.facts.pids } }
moved k who (RemovePid pid) r = record k { facts = record k.facts { pids = without_pid pid k.facts.pids } }
moved k who (Start now) r = record {
  facts = record k.facts { ledger = Some (begun now) };
  selecting = begun_again k.selecting;
}
moved k who Stop r = record k { facts = record k.facts { ledger = option_map with_stop k.facts.ledger } }
moved k who (SetSize size) r =
    if nat_eq size k.facts.size then k else record k { facts = record k.facts { size = size; ledger = None } }
moved k who (Read now count) r =
    record k {
      facts = record k.facts {
        ledger = option_map
            (λ l. with_response (is_section k.facts.params) r
            (expiring (timeout_of k.facts.params) now l)) k.facts.ledger;
      };
    }
moved k who (Poll now) r =
    record k {
      facts = record k.facts {
        ledger = option_map
            (expiring (timeout_of k.facts.params) now) k.facts.ledger;
      };
    }
moved k who (Pass input first packets now) r = record {
  facts = record k.facts {
    ledger = option_map
        (λ l. passed k.facts.params (k.facts.size - 1) input (filter (is_named k.facts.pids) packets) k.selecting
        (expiring (timeout_of k.facts.params) now l)) k.facts.ledger;
  };
  selecting =
      passed_by k.facts.params input (filter (is_named k.facts.pids) packets) k.selecting
      (option_map (expiring (timeout_of k.facts.params) now) k.facts.ledger);
}
moved k who End r = record k { facts = record k.facts { has_ended = true } }
moved k who _ r = k

-- any call with this response
abbrev pub next : Knows → (who : ℕ) → Invocation → Response → Knows
next k who call r = if is_accepted r then moved k who call r else k

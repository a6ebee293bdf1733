-- The counters of the packets to come, and what they stand for.
use Rattle.std.specs.Prelude.{ℕ, ◌+◌, ◌%◌, ◌<◌}
use Rattle.ts_make.specs.declared.kind.Kind.{Kind}
use Rattle.ts_make.specs.declared.kind.Kind.TheVariants.{Association, Video, Audio, Service, Null}
use Rattle.ts_make.specs.declared.counters.Counters.{Counters}
use Rattle.ts_make.specs.Made.{packets_of}

abbrev pub all_zero : Counters
all_zero = record { association = 0; video = 0; audio = 0; service = 0; null = 0 }

-- each is at most 15
pub record AreSmall (c : Counters) : Type 0 where
  pub association : c.association < 16
  pub video : c.video < 16
  pub audio : c.audio < 16
  pub service : c.service < 16
  pub null : c.null < 16

-- the counter of a kind
abbrev pub counter_in : Counters → Kind → ℕ
counter_in c Association = c.association
counter_in c Video = c.video
counter_in c Audio = c.audio
counter_in c Service = c.service
counter_in c Null = c.null

-- with the counter of a kind raised, modulo 16
abbrev pub risen : Counters → Kind → Counters
risen c Association = record {
  association = (c.association + 1) % 16;
  video = c.video;
  audio = c.audio;
  service = c.service;
  null = c.null;
}
risen c Video = record {
  association = c.association;
  video = (c.video + 1) % 16;
  audio = c.audio;
  service = c.service;
  null = c.null;
}
risen c Audio = record {
  association = c.association;
  video = c.video;
  audio = (c.audio + 1) % 16;
  service = c.service;
  null = c.null;
}
risen c Service = record {
  association = c.association;
  video = c.video;
  audio = c.audio;
  service = (c.service + 1) % 16;
  null = c.null;
}
risen c Null = record {
  association = c.association;
  video = c.video;
  audio = c.audio;
  service = c.service;
  null = (c.null + 1) % 16;
}

-- the counters behind the first n packets
abbrev pub counters_of : ℕ → ℕ → Counters
counters_of number n = record {
  association = packets_of number 0 n % 16;
  video = packets_of number 256 n % 16;
  audio = packets_of number 257 n % 16;
  service = packets_of number 512 n % 16;
  null = packets_of number 8191 n % 16;
}

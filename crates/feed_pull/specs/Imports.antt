-- The words of others that the definitions and clauses of this crate use.
pub use Rattle.emu_io.specs.Causes.{HasCause}
pub use Rattle.emu_io.specs.Ends.{SourceEnd}
pub use Rattle.std.specs.Io.KnownBytes.{Consumes, IsAtEnd}
pub use Rattle.std.specs.declared.option.Option.{Option}
pub use Rattle.ts_packet.specs.Cut.{cut}
pub use Rattle.ts_packet.specs.Cutting.{Cuts, Cutting, IsRest, IsTally, bytes_counted, fresh}
pub use Rattle.ts_packet.specs.declared.size.PacketSize.{PacketSize}
pub use Rattle.ts_watch.specs.Head.{head_of, told_head}
pub use Rattle.ts_watch.specs.Watching.{Watched, Watching}

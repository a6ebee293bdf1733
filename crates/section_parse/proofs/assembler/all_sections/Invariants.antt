use Rattle.section_parse.proofs.Imports.{◌≡◌, ◌+◌, [], map, take, Assembled, bytes_kept}
use Rattle.section_parse.proofs.assembler.all_sections.Given as goal

abbrev pub invariant-sections : goal.invariant-sections
invariant-sections l = record {
  same : l.assembler.pid ≡ l.pid;
  stands : Assembled (take (l.packet-index + 1) l.packets) (map (λ s. s.items) l.found.items) l.assembler;
}

abbrev pub decreases-sections : goal.decreases-sections
decreases-sections l = bytes_kept l.assembler

abbrev pub invariant-packets : goal.invariant-packets
invariant-packets l = record {
  same : l.assembler.pid ≡ l.pid;
  drained : l.assembler.ready ≡ [];
  stands : Assembled (take l.packet-index l.packets) (map (λ s. s.items) l.found.items) l.assembler;
}

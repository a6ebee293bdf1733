use Rattle.item_select.proofs.Selected.{Selects-offered}
use Rattle.item_select.proofs.Viewed.{offer-nothing, offer-spent, offer-section, offer-packet, section-bytes, packet-bytes}
use Rattle.item_select.proofs.selector.Selector.offer.Goals as goal

pub returns-in-Nothing-clause-value : goal.returns-in-Nothing-clause-value
returns-in-Nothing-clause-value c =
    let i = c.self.inside in
    rw (← c.self.view_is) (offer-nothing i.wanted i.assembler i.is_spent i.waits i.last c.args.packet.now c.in-Nothing.is)

pub returns-in-Nothing-clause-stands : goal.returns-in-Nothing-clause-stands
returns-in-Nothing-clause-stands c = λ offered given h. Selects-offered offered given c.args.self.now _ c.args.packet.now (returns-in-Nothing-clause-value c) c.requires.drained h

pub returns-then-not-self-clause-value : goal.returns-then-not-self-clause-value
returns-then-not-self-clause-value c =
    let i = c.self.inside in
    let s = c.in-Sections in
    rw (← c.self.view_is) (offer-section i.wanted s.pid s.filter s.check s.once i.assembler c.push.new.self i.is_spent i.waits i.last c.args.packet.now s.is c.if-not-self.true (rw (← c.drain.ensures) c.push.ensures.value))

pub returns-then-not-self-clause-stands : goal.returns-then-not-self-clause-stands
returns-then-not-self-clause-stands c = λ offered given h. Selects-offered offered given c.args.self.now _ c.args.packet.now (returns-then-not-self-clause-value c) c.requires.drained h

pub returns-then-not-self-clause-bytes : goal.returns-then-not-self-clause-bytes
returns-then-not-self-clause-bytes c =
    let i = c.self.inside in
    let s = c.in-Sections in
    rw (← c.self.view_is) (section-bytes i.wanted s.pid s.filter s.check s.once i.assembler c.drain.new.assembler c.push.new.self i.is_spent i.waits i.last s.is c.if-not-self.true c.drain.ensures c.push.ensures.bytes)

pub returns-else-not-self-clause-value : goal.returns-else-not-self-clause-value
returns-else-not-self-clause-value c =
    let i = c.self.inside in
    let s = c.in-Sections in
    rw (← c.self.view_is) (offer-spent i.wanted s.pid s.filter s.check s.once i.assembler i.is_spent i.waits i.last c.args.packet.now s.is c.if-not-self.false)

pub returns-else-not-self-clause-stands : goal.returns-else-not-self-clause-stands
returns-else-not-self-clause-stands c = λ offered given h. Selects-offered offered given c.args.self.now _ c.args.packet.now (returns-else-not-self-clause-value c) c.requires.drained h

pub returns-in-Packets-clause-value : goal.returns-in-Packets-clause-value
returns-in-Packets-clause-value c =
    let i = c.self.inside in
    let s = c.in-Packets in
    rw (← c.self.view_is) (offer-packet i.wanted s.field-0 i.assembler i.is_spent i.waits i.last c.args.packet.now s.is)

pub returns-in-Packets-clause-stands : goal.returns-in-Packets-clause-stands
returns-in-Packets-clause-stands c = λ offered given h. Selects-offered offered given c.args.self.now _ c.args.packet.now (returns-in-Packets-clause-value c) c.requires.drained h

pub returns-in-Packets-clause-bytes : goal.returns-in-Packets-clause-bytes
returns-in-Packets-clause-bytes c =
    let i = c.self.inside in
    let s = c.in-Packets in
    rw (← c.self.view_is) (packet-bytes i.wanted s.field-0 i.assembler i.is_spent i.waits i.last c.args.packet.now s.is c.bytes.ensures.packet.size)

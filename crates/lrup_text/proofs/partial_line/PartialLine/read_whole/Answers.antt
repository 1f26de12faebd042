use Rattle.std.proofs.Common.{◌∙◌, ap, length, rules}
use Rattle.std.proofs.lemmas.List.{with_items_is}
use Rattle.lrup_text.proofs.Readers.{kept_none, restarts}
use Rattle.lrup_text.proofs.partial_line.PartialLine.read_whole.Goals as goal

pub returns-in_default : goal.returns-in_default
returns-in_default c =
    let lits_are =
    with_items_is c.args.self.now.literals c.read_line.new.literals (c.read_line.auto.literals ∙ c.as_mut_slice-literals.ensures.len) in
    let ids_are = with_items_is c.args.self.now.identities c.read_line.new.identities
    (c.read_line.auto.identities ∙ c.as_mut_slice-identities.ensures.len) in
    let room_lits = c.read_line.auto.literals ∙ ap length c.as_mut_slice-literals.ensures.value ∙ c.requires.reads.room.literals in
    let room_ids = c.read_line.auto.identities ∙ ap length c.as_mut_slice-identities.ensures.value ∙ c.requires.reads.room.identities in
    let starts = restarts _ c.read_line.new.literals c.read_line.new.identities c.requires.start lits_are ids_are room_lits room_ids
    (kept_none _ _ _ c.requires.reads.kept.lead) c.requires.reads.number in
    record { reads = starts.0; empty = starts.1; line = search rules }

pub returns : goal.returns
returns c =
    let lits_are =
    with_items_is c.args.self.now.literals c.read_line.new.literals (c.read_line.auto.literals ∙ c.as_mut_slice-literals.ensures.len) in
    let ids_are = with_items_is c.args.self.now.identities c.read_line.new.identities
    (c.read_line.auto.identities ∙ c.as_mut_slice-identities.ensures.len) in
    let room_lits = c.read_line.auto.literals ∙ ap length c.as_mut_slice-literals.ensures.value ∙ c.requires.reads.room.literals in
    let room_ids = c.read_line.auto.identities ∙ ap length c.as_mut_slice-identities.ensures.value ∙ c.requires.reads.room.identities in
    let starts = restarts _ c.read_line.new.literals c.read_line.new.identities c.requires.start lits_are ids_are room_lits room_ids
    c.in-Some.ensures.kept c.requires.reads.number in
    record { reads = starts.0; empty = starts.1; line = search rules }

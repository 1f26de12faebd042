-- A stream under a cube, and the same stream without a cube.
use Rattle.std.proofs.Common.{◌≡◌, ◌∙◌, ℕ, Bool, List, [], ◌∷◌, ◌++◌, Result, inl, inr, refl, sym, ap}
use Rattle.lrup_model.specs.Clause.{Clause}
use Rattle.lrup_model.specs.Event.{History, Reply}
use Rattle.lrup_text.specs.Lines.{StreamLine, Deletion}
use Rattle.lrup_text.specs.declared.device.StreamEnd.{StreamEnd}
use Rattle.stream_check.specs.declared.fault.Fault.{Fault}
use Rattle.stream_check.specs.declared.report.Ending.{Ending}
use Rattle.stream_check.specs.declared.report.Report.{Report}
use Rattle.stream_check.specs.declared.params.Ownership.{Ownership}
use Rattle.stream_check.specs.declared.params.Ownership.TheVariants as ownerships
use Rattle.stream_check.specs.StreamParams.{StreamParams, ownership_of}
use Rattle.stream_check.specs.StreamContext.{context_of, additions_of}
use Rattle.stream_check.specs.Verdicts.{LineVerdict, Good, Bad}
use Rattle.stream_check.specs.Lookup.{FetchesHintAt, LooksUp}
use Rattle.stream_check.specs.lemmas.MappingLemmas.{LooksOn, line_maps}
use Rattle.stream_check.specs.Judging.{JudgesLine, AreGood, report_of, EndsAfter, at_bad_line, at_bad_text, at_memory, at_end}
use Rattle.stream_check.specs.lemmas.ReportLemmas.{all_only_empty}
use Rattle.outcome_laws.specs.Outcomes.{bare_params, bare_report}
use Rattle.outcome_laws.specs.Laws.{CubeIsIrrelevant}

-- Lines

asks_bare : (ownership : Ownership) (c : StreamParams) (h : ℕ) (es : History) (r : Reply) → FetchesHintAt ownership c h es r
    → FetchesHintAt ownership (bare_params c) h es r
asks_bare ownerships.Formula c h es r asks = asks
asks_bare ownerships.Own c h es r asks = asks
asks_bare ownerships.Foreign c h es r asks = asks
asks_bare ownerships.Outside c h es r asks = asks

looks_bare : (c : StreamParams) (is_dropped : ℕ → Bool) (h : ℕ) (asked rest : History) (answer : Result Clause Fault)
    → LooksUp c is_dropped h asked answer
    → LooksOn (bare_params c) (λ es. es) is_dropped h asked rest answer
looks_bare c is_dropped h asked rest answer (inl dropped) = record { fewer = asked; events = refl; looks = inl dropped }
looks_bare c is_dropped h asked rest answer (inr found) = record {
  fewer = asked;
  events = refl;
  looks = inr (found.0, found.1, asks_bare (ownership_of c h) c h asked found.1 found.2, found.3);
}

line_bare : (c : StreamParams) (before : List StreamLine) (line : StreamLine) (es : History) (v : LineVerdict)
    → JudgesLine c (context_of c before) line es v → JudgesLine (bare_params c) (context_of (bare_params c) before) line es v
line_bare c before line es v judged =
    line_maps c [] (λ e. e) refl (λ id lits. refl) (λ id r rest. refl)
    (λ is_dropped h asked rest answer looks ends. looks_bare c is_dropped h asked rest answer looks) (context_of c before) line es v judged

good_bare : (c : StreamParams) (before lines : List StreamLine) (blocks : List History) → AreGood c before lines blocks
    → AreGood (bare_params c) before lines blocks
good_bare c before [] [] good = tt
good_bare c before [] (block ∷ blocks) good = absurd good
good_bare c before (line ∷ lines) [] good = absurd good
good_bare c before (line ∷ lines) (block ∷ blocks) good =
    (line_bare c before line block Good good.0, good_bare c (before ++ line ∷ []) lines blocks good.1)

-- Reports

says_bare : (c : StreamParams) (lines : List StreamLine) (deleted : ℕ) (ending : Ending) (report : Report)
    → report ≡ report_of c lines deleted ending → bare_report report ≡ report_of (bare_params c) lines deleted ending
says_bare c lines deleted ending report says =
    let r = report_of c lines deleted ending in
    ap bare_report says
    ∙ ap (λ (w : Bool). record { added = r.added; deleted = r.deleted; empty = r.empty; within = w; ending = r.ending })
    (sym (all_only_empty (additions_of lines)))

ends_bare : (c : StreamParams) (lines : List StreamLine) (rest : List ℕ) (end : StreamEnd) (back : List History) (report : Report)
    → EndsAfter c lines rest end back report → EndsAfter (bare_params c) lines rest end back (bare_report report)
ends_bare c lines rest end back report (at_bad_line line more text fits block one_block deleted fault bad says) =
    at_bad_line line more text fits block one_block deleted fault (line_bare c lines line block (Bad deleted fault) bad)
    (says_bare c lines _ _ report says)
ends_bare c lines rest end back report (at_bad_text fault text no_block says) =
    at_bad_text fault text no_block (says_bare c lines _ _ report says)
ends_bare c lines rest end back report (at_memory lead ids more text fits block one_block earlier stops says) =
    at_memory lead ids more text fits block one_block earlier
    (record {
      id = stops.id;
      later = stops.later;
      identities = stops.identities;
      before = line_bare c lines (Deletion lead earlier) block Good stops.before;
      shared = stops.shared;
      new = stops.new;
    })
    (says_bare c lines _ _ report says)
ends_bare c lines rest end back report (at_end pending no_block says) = at_end pending no_block (says_bare c lines _ _ report says)

pub cube_is_irrelevant : CubeIsIrrelevant
cube_is_irrelevant c bytes end blocks report j = record {
  lines = j.lines;
  rest = j.rest;
  front = j.front;
  back = j.back;
  split = j.split;
  text = j.text;
  fits = j.fits;
  good = good_bare c [] j.lines j.front j.good;
  ends = ends_bare c j.lines j.rest end j.back report j.ends;
}

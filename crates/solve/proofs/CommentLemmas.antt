-- Lemmas about what a sink took, and about comments that are printed one after the other.
use Rattle.std.proofs.Common.{◌++◌, ◌∙◌, ◌∷◌, ◌≡◌, Bool, List, [], Option, ap, append_assoc, false, refl, subst, sym, true, ℕ}
use Rattle.std.specs.Prelude.{Err, Ok, Result, is_err}
use Rattle.std.proofs.lemmas.Bool.{false≢true}
use Rattle.std.proofs.lemmas.List.{append-nil}
use Rattle.lrup_text.specs.Writing.{WritesText}
use Rattle.lrup_text.specs.declared.device.Sink as Sink
use Rattle.lrup_text.specs.lemmas.WritingLemmas.{appends_nothing}
use Rattle.command.specs.Commands.{SinkTook, TakesUnlessFailed, change}
use Rattle.command.specs.lemmas.TakingLemmas.{took_after_text}
use Rattle.solve.specs.Printing.{PrintsComments, comment_text, comments_text}

-- what a call wrote, the sink took
pub took_text : {E : Type 0} (r : Result (Unit {0}) E) (failed : Bool) (a b : Option (List ℕ)) (text : List ℕ)
    → failed ≡ is_err r → WritesText r a b text → TakesUnlessFailed failed a b text
took_text (Ok u) false a b text is written = written
took_text (Ok u) true a b text is written = cc
took_text (Err e) false a b text is written = cc
took_text (Err e) true a b text is written = written

took_nothing : (failed : Bool) (a : Option (List ℕ)) → TakesUnlessFailed failed a a []
took_nothing false a = appends_nothing a
took_nothing true a = ([], [], refl, appends_nothing a)

-- a prefix of a text is one of a longer text
prefix_more : (a b : Option (List ℕ)) (x y : List ℕ) → TakesUnlessFailed true a b x → TakesUnlessFailed true a b (x ++ y)
prefix_more a b x y (went, rest, is, took) =
    (went, rest ++ y, ap (λ t. t ++ y) is ∙ append_assoc went rest y, took)

-- a sink took two texts, one after the other; nothing was done to it if it had failed by then
pub took_both : {W : Type 0} (its : Sink.Ghosts W) (a b c : W) (x y : List ℕ) (failed : Bool)
    → its.has_failed b ≡ failed → SinkTook (change its a b) x → (failed ≡ false → SinkTook (change its b c) y)
    → (failed ≡ true → c ≡ b) → SinkTook (change its a c) (x ++ y)
took_both its a b c x y false is took next stays =
    took_after_text (its.has_failed c) (its.written a) (its.written b) (its.written c) x y
    (subst (λ (f : Bool). TakesUnlessFailed f (its.written a) (its.written b) x) is took) (next refl)
took_both {W} its a b c x y true is took next stays =
    subst (λ (w : W). SinkTook (change its a w) (x ++ y)) (sym (stays refl))
    (subst (λ (f : Bool). TakesUnlessFailed f (its.written a) (its.written b) (x ++ y)) (sym is)
    (prefix_more (its.written a) (its.written b) x y
    (subst (λ (f : Bool). TakesUnlessFailed f (its.written a) (its.written b) x) is took)))

comments_append : (xs ys : List (List ℕ)) → comments_text (xs ++ ys) ≡ comments_text xs ++ comments_text ys
comments_append [] ys = refl
comments_append (x ∷ xs) ys =
    ap (λ t. comment_text x ++ t) (comments_append xs ys)
    ∙ sym (append_assoc (comment_text x) (comments_text xs) (comments_text ys))

pub no_comments : {W : Type 0} (its : Sink.Ghosts W) (a : W) → PrintsComments its a a
no_comments its a = record {
  comments = [];
  took = took_nothing (its.has_failed a) (its.written a);
  stays = λ _. refl;
}

pub one_comment : {W E : Type 0} (its : Sink.Ghosts W) (a b : W) (r : Result (Unit {0}) E) (words : List ℕ)
    → its.has_failed a ≡ false → its.has_failed b ≡ is_err r
    → WritesText r (its.written a) (its.written b) (comment_text words) → PrintsComments its a b
one_comment its a b r words running is written = record {
  comments = words ∷ [];
  took = subst (λ (t : List ℕ). SinkTook (change its a b) t) (sym (append-nil (comment_text words)))
      (took_text r (its.has_failed b) (its.written a) (its.written b) (comment_text words) is written);
  stays = λ failed. absurd (false≢true (sym running ∙ failed));
}

pub more_comments : {W : Type 0} (its : Sink.Ghosts W) (a b c : W) → PrintsComments its a b → PrintsComments its b c
    → PrintsComments its a c
more_comments its a b c before after = record {
  comments = before.comments ++ after.comments;
  took = subst (λ (t : List ℕ). SinkTook (change its a c) t) (sym (comments_append before.comments after.comments))
      (took_both its a b c (comments_text before.comments) (comments_text after.comments) (its.has_failed b) refl
      before.took (λ _. after.took) after.stays);
  stays = λ failed. let here = before.stays failed in
      after.stays (ap its.has_failed here ∙ failed) ∙ here;
}

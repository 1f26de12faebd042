-- The judge looks identities up as the relation says.
use Rattle.std.proofs.Common.{◌≡◌, ◌≤◌, ◌++◌, ℕ, zero, suc, Bool, true, false, [], ◌∷◌, replicate, inl, inr, refl, sym, ap, ap₂, ◌∙◌, arith}
use Rattle.std.specs.Prelude.{◌==◌, ◌&&◌, if◌then◌else◌, Some, None, Result, Err}
use Rattle.lrup_model.specs.Clause.{Clause}
use Rattle.lrup_model.specs.Event as events
use Rattle.lrup_model.specs.Event.{Event, History, Reply}
use Rattle.stream_check.specs.declared.fault.Fault.{Fault}
use Rattle.stream_check.specs.declared.fault.Fault.TheVariants as faults
use Rattle.stream_check.specs.declared.params.Ownership.{Ownership}
use Rattle.stream_check.specs.declared.params.Ownership.TheVariants as ownerships
use Rattle.stream_check.specs.StreamParams.{StreamParams, ownership_of}
use Rattle.stream_check.specs.Lookup.{FetchesUpTo, FetchesHintAt, LooksUp, answer_of}
use Rattle.judge.specs.Judge.{Given, fetched, answered, asked, looked_up}
use Rattle.judge.specs.Laws.{LookUpJudged}
use Rattle.judge.proofs.TestLemmas.{none_is, gives, given, give, passed, pass, Decides-both, both_same}

-- Fetches

-- the last fetch
last_fetch : (more s id : ℕ) (reply : Reply) (rest : History) → (reply ≡ events.vacant → 0 ≡ more)
    → fetched more s id (events.fetch s id reply ∷ rest) ≡ Some (reply, rest)
last_fetch zero s id events.vacant rest last = pass (s == s && id == id) _ (both_same s id)
last_fetch (suc more) s id events.vacant rest last = absurd (let e = last refl in omega arith)
last_fetch more s id (events.live clause) rest last = pass (s == s && id == id) _ (both_same s id)
last_fetch more s id events.retired rest last = pass (s == s && id == id) _ (both_same s id)

fetches : (k more s id : ℕ) (reply : Reply) (rest : History) → k ≤ more → (reply ≡ events.vacant → k ≡ more)
    → fetched more s id ((replicate k (events.fetch s id events.vacant) ++ events.fetch s id reply ∷ []) ++ rest) ≡ Some (reply, rest)
fetches zero more s id reply rest few last = last_fetch more s id reply rest last
fetches (suc k) zero s id reply rest few last = absurd (omega arith)
fetches (suc k) (suc more) s id reply rest few last =
    pass (s == s && id == id) _ (both_same s id)
    ∙ fetches k more s id reply rest (omega arith) (λ vacant. let e = last vacant in omega arith)

pub fetched_by : (more s id : ℕ) (taken rest : History) (reply : Reply) → FetchesUpTo more s id taken reply
    → fetched more s id (taken ++ rest) ≡ Some (reply, rest)
fetched_by more s id taken rest reply by =
    ap (λ h. fetched more s id (h ++ rest)) by.3 ∙ fetches by.0 more s id reply rest by.1 by.2

-- What is taken of the events, and the events that are left

abbrev pub Takes : (History → Type 0) → History → History → Type 0
Takes Is history rest = (taken : History) × (history ≡ taken ++ rest) × Is taken

-- the fetch is the stream's, and of this identity
same_fetch : (s id t j : ℕ) (reply : Reply) → (s == t && id == j) ≡ true → events.fetch t j reply ≡ events.fetch s id reply
same_fetch s id t j reply is =
    let same = (Decides-both s t id j).0 is in ap₂ (λ x y. events.fetch x y reply) (sym same.0) (sym same.1)

one_fetch : (more s id t j : ℕ) (reply its : Reply) (history rest : History) → (reply ≡ events.vacant → 0 ≡ more)
    → (if s == t && id == j then gives reply history else None) ≡ gives its rest
    → Takes (λ taken. FetchesUpTo more s id taken its) (events.fetch t j reply ∷ history) rest
one_fetch more s id t j reply its history rest last is =
    let test = passed (s == t && id == j) (gives reply history) (its, rest) is in
    let same = given reply its history rest test.1 in (
      events.fetch s id its ∷ [],
      ap₂ (λ e h. e ∷ h) (same_fetch s id t j reply test.0 ∙ ap (events.fetch s id) same.0) same.1,
      (0, omega arith, (λ vacant. last (same.0 ∙ vacant)), refl),
    )

more_fetches : (more s id t j : ℕ) (its : Reply) (history rest : History)
    → (if s == t && id == j then fetched more s id history else None) ≡ Some (its, rest)
    → (fetched more s id history ≡ Some (its, rest) → Takes (λ taken. FetchesUpTo more s id taken its) history rest)
    → Takes (λ taken. FetchesUpTo (suc more) s id taken its) (events.fetch t j events.vacant ∷ history) rest
more_fetches more s id t j its history rest is next =
    let test = passed (s == t && id == j) (fetched more s id history) (its, rest) is in
    let later = next test.1 in
    let few = later.2.1 in (
      events.fetch s id events.vacant ∷ later.0,
      ap₂ (λ e h. e ∷ h) (same_fetch s id t j events.vacant test.0) later.1,
      (
        suc later.2.0,
        omega arith,
        (λ vacant. ap suc (later.2.2 vacant)),
        ap (λ h. events.fetch s id events.vacant ∷ h) later.2.3,
      ),
    )

pub fetched_from : (more s id : ℕ) (history rest : History) (its : Reply) → fetched more s id history ≡ Some (its, rest)
    → Takes (λ taken. FetchesUpTo more s id taken its) history rest
fetched_from more s id [] rest its is = none_is (its, rest) is
fetched_from zero s id (events.fetch t j events.vacant ∷ history) rest its is =
    one_fetch zero s id t j events.vacant its history rest (λ e. refl) is
fetched_from (suc more) s id (events.fetch t j events.vacant ∷ history) rest its is =
    more_fetches more s id t j its history rest is (fetched_from more s id history rest its)
fetched_from more s id (events.fetch t j (events.live clause) ∷ history) rest its is =
    one_fetch more s id t j (events.live clause) its history rest (λ e. absurd (cc)) is
fetched_from more s id (events.fetch t j events.retired ∷ history) rest its is =
    one_fetch more s id t j events.retired its history rest (λ e. absurd (cc)) is
fetched_from more s id (events.publish t j clause reply ∷ history) rest its is = none_is (its, rest) is
fetched_from more s id (events.retire t j reply ∷ history) rest its is = none_is (its, rest) is

-- an identity that is fetched once is fetched without further tries
once : (s id : ℕ) (taken : History) (reply : Reply) → taken ≡ events.fetch s id reply ∷ [] → FetchesUpTo 0 s id taken reply
once s id taken reply is = (0, omega arith, (λ vacant. refl), is)

from_once : (s id : ℕ) (taken : History) (reply : Reply) → FetchesUpTo 0 s id taken reply → taken ≡ events.fetch s id reply ∷ []
from_once s id taken reply (zero, few, last, is) = is
from_once s id taken reply (suc k, few, last, is) = absurd (omega arith)

-- Look-ups

pub answer_given : (id : ℕ) (from : Given Reply) (answer : Result Clause Fault) (rest : History) → answered id from ≡ Some (answer, rest)
    → (reply : Reply) × (from ≡ Some (reply, rest)) × (answer ≡ answer_of id reply)
answer_given id None answer rest is = none_is (answer, rest) is
answer_given id (Some (reply, history)) answer rest is =
    let same = given (answer_of id reply) answer history rest is in
    (reply, give reply reply history rest refl same.1, sym same.0)

asked_by : (o : Ownership) (c : StreamParams) (id : ℕ) (taken rest : History) (reply : Reply) → FetchesHintAt o c id taken reply
    → asked o c id (taken ++ rest) ≡ Some (answer_of id reply, rest)
asked_by ownerships.Formula c id taken rest reply by =
    ap (answered id) (fetched_by 0 c.stream id taken rest reply (once c.stream id taken reply by))
asked_by ownerships.Own c id taken rest reply by =
    ap (answered id) (fetched_by 0 c.stream id taken rest reply (once c.stream id taken reply by))
asked_by ownerships.Foreign c id taken rest reply by = ap (answered id) (fetched_by c.tries c.stream id taken rest reply by)
asked_by ownerships.Outside c id taken rest reply by =
    give (Err (faults.Missing id)) (answer_of id reply) (taken ++ rest) rest (ap (answer_of id) (sym by.1)) (ap (λ h. h ++ rest) by.0)

asked_from : (o : Ownership) (c : StreamParams) (id : ℕ) (history rest : History) (answer : Result Clause Fault)
    → asked o c id history ≡ Some (answer, rest)
    → (reply : Reply) × (answer ≡ answer_of id reply) × Takes (λ taken. FetchesHintAt o c id taken reply) history rest
asked_from ownerships.Formula c id history rest answer is =
    let from = answer_given id (fetched 0 c.stream id history) answer rest is in
    let by = fetched_from 0 c.stream id history rest from.0 from.1 in
    (from.0, from.2, (by.0, by.1, from_once c.stream id by.0 from.0 by.2))
asked_from ownerships.Own c id history rest answer is =
    let from = answer_given id (fetched 0 c.stream id history) answer rest is in
    let by = fetched_from 0 c.stream id history rest from.0 from.1 in
    (from.0, from.2, (by.0, by.1, from_once c.stream id by.0 from.0 by.2))
asked_from ownerships.Foreign c id history rest answer is =
    let from = answer_given id (fetched c.tries c.stream id history) answer rest is in
    (from.0, from.2, fetched_from c.tries c.stream id history rest from.0 from.1)
asked_from ownerships.Outside c id history rest answer is =
    let same = given (Err (faults.Missing id)) answer history rest is in
    (events.vacant, sym same.0, ([], same.1, (refl, refl)))

looks_by : (c : StreamParams) (is_dropped : ℕ → Bool) (id : ℕ) (taken rest : History) (answer : Result Clause Fault)
    → LooksUp c is_dropped id taken answer → looked_up c is_dropped id (taken ++ rest) ≡ Some (answer, rest)
looks_by c is_dropped id taken rest answer (inl (gone, none, is)) =
    ap (λ b. if b then Some (Err (faults.Dropped id), taken ++ rest) else asked (ownership_of c id) c id (taken ++ rest)) gone
    ∙ give (Err (faults.Dropped id)) answer (taken ++ rest) rest (sym is) (ap (λ h. h ++ rest) none)
looks_by c is_dropped id taken rest answer (inr (kept, reply, asks, is)) =
    ap (λ b. if b then Some (Err (faults.Dropped id), taken ++ rest) else asked (ownership_of c id) c id (taken ++ rest)) kept
    ∙ asked_by (ownership_of c id) c id taken rest reply asks ∙ give (answer_of id reply) answer rest rest (sym is) refl

looks_at : (c : StreamParams) (is_dropped : ℕ → Bool) (id : ℕ) (history rest : History) (answer : Result Clause Fault) (b : Bool)
    → is_dropped id ≡ b
    → (if b then gives (Err (faults.Dropped id)) history else asked (ownership_of c id) c id history) ≡ gives answer rest
    → Takes (λ taken. LooksUp c is_dropped id taken answer) history rest
looks_at c is_dropped id history rest answer true gone is =
    let same = given (Err (faults.Dropped id)) answer history rest is in ([], same.1, inl (gone, refl, sym same.0))
looks_at c is_dropped id history rest answer false kept is =
    let from = asked_from (ownership_of c id) c id history rest answer is in
    (from.2.0, from.2.1, inr (kept, from.0, from.2.2, from.1))

looks_from : (c : StreamParams) (is_dropped : ℕ → Bool) (id : ℕ) (history rest : History) (answer : Result Clause Fault)
    → looked_up c is_dropped id history ≡ Some (answer, rest) → Takes (λ taken. LooksUp c is_dropped id taken answer) history rest
looks_from c is_dropped id history rest answer is = looks_at c is_dropped id history rest answer (is_dropped id) refl is

pub look_up_judged : LookUpJudged
look_up_judged c is_dropped id history rest answer = (
  looks_from c is_dropped id history rest answer,
  λ by. ap (looked_up c is_dropped id) by.1 ∙ looks_by c is_dropped id by.0 rest answer by.2,
)

-- The rule of the row, which holds between any two steps (this project's own).
use Rattle.std.specs.Prelude.{◌≡◌, ◌+◌, ◌≤◌, ◌==◌, ◌++◌, ℕ, List, [], ◌∷◌, Some, length, slice_index, if◌then◌else◌, zero, suc}
use Rattle.std.specs.List.{AllByRecursion}
use Rattle.atomic_table.specs.Table.{State}
use Rattle.lrup_model.specs.Formula.{Cnf, IsCnf}
use Rattle.lrup_model.specs.Layout.{LayoutValue, IsLayout, Fits, IsIdentity, IsStream, row_words}
use Rattle.lrup_model.specs.Event.{History, own, spent}
use Rattle.lrup_model.specs.State.{state}
use Rattle.lrup_model.specs.History.{IsLegal}
use Rattle.lrup_model.specs.CallerView.{StoredClause}
use Rattle.lrup_model.specs.Pass.{stored_in}
use Rattle.idwords.specs.internal.RowWords.{word_of, LiesAt}
use Rattle.idwords.specs.Spelling.{spelling_of, top_after}
use Rattle.idwords.specs.Seats.{ThreadState, opening_thread}

abbrev pub thread_stream : ThreadState → ℕ
thread_stream thread = thread.view.caller.stream

-- The thread state agrees with the log and the words: it has the run's formula and layout; it has
-- seen a prefix of the log, and its calls are its stream's events in that prefix and in the whole
-- log; its clauses are stored where that prefix puts them, its top is after its clauses, and the
-- words from its top on have its draft, which fits into its stream's room.
pub record Agrees (run_formula : Cnf) (run_layout : LayoutValue) (log : History) (words : List ℕ)
    (thread : ThreadState) : Type 0 where
  pub formula : thread.view.caller.formula ≡ run_formula
  pub layout : thread.view.caller.layout ≡ run_layout
  pub stream : IsStream run_layout (thread_stream thread)
  pub begins : (more : History) × (log ≡ thread.view.seen ++ more)
  pub seen : own thread.view.seen (thread_stream thread) ≡ thread.view.mine
  pub mine : own log (thread_stream thread) ≡ thread.view.mine
  pub spelt : thread.view.spelt ≡ spelling_of run_formula run_layout thread.view.seen
  pub top : thread.top ≡ top_after run_layout (thread_stream thread) thread.view.mine
  pub room : spent (thread_stream thread) thread.view.mine + length thread.draft ≤ run_layout.room
  pub draft : LiesAt words thread.top thread.draft

abbrev pub AllThreads : (ThreadState → Type 0) → List (List ThreadState) → Type 0
AllThreads P views = AllByRecursion (λ threads. AllByRecursion P threads) views

-- how many of the thread states are this stream's
abbrev pub count_in : ℕ → List ThreadState → ℕ
count_in s [] = 0
count_in s (thread ∷ threads) = (if thread_stream thread == s then 1 else 0) + count_in s threads

abbrev pub times : ℕ → List (List ThreadState) → ℕ
times s [] = 0
times s (threads ∷ views) = count_in s threads + times s views

-- the formula and the layout are within the limits, and fit each other
pub record IsPlan (run_formula : Cnf) (run_layout : LayoutValue) : Type 0 where
  pub formula : IsCnf run_formula
  pub layout : IsLayout run_layout
  pub fits : Fits run_layout run_formula

-- The row fits this history: the words show what the history leaves under each identity, and have
-- the literals of each clause; each thread state agrees with the history and the words, and no
-- stream has two thread states.
pub record Keeps (formula : Cnf) (layout : LayoutValue) (log : History) (words : List ℕ)
    (views : List (List ThreadState)) : Type 0 where
  pub plan : IsPlan formula layout
  pub legal : IsLegal formula layout log
  pub count : length words ≡ row_words layout
  pub first : slice_index words 0 ≡ 0
  pub slots : (id : ℕ) → IsIdentity layout id
      → slice_index words id
      ≡ word_of (state formula log id) (stored_in (spelling_of formula layout log) id)
  pub texts : (id : ℕ) (stored : StoredClause)
      → stored_in (spelling_of formula layout log) id ≡ Some stored
      → LiesAt words stored.start stored.literals
  pub threads : AllThreads (Agrees formula layout log words) views
  pub once : (s : ℕ) → times s views ≤ 1

-- the row fits some history
abbrev pub HoldsRowInvariant : {S : Type 0} → Cnf → LayoutValue
    → State S (List ThreadState) → Type 0
HoldsRowInvariant formula layout row =
    (log : History) × Keeps formula layout log row.words row.views

-- the thread states, at the opening, of this many streams, starting with stream s
abbrev pub opening_threads : Cnf → LayoutValue → ℕ → ℕ → List ThreadState
opening_threads formula layout s zero = []
opening_threads formula layout s (suc count) =
    opening_thread formula layout s ∷ opening_threads formula layout (s + 1) count

-- Which stream is judged, under which cube, and who owns an identity, as seen by this stream (this
-- project's own).
use Rattle.std.specs.Prelude.{◌==◌, ℕ, Bool, true, false, if◌then◌else◌}
use Rattle.lrup_model.specs.Cube.{CubeValue}
use Rattle.lrup_model.specs.Layout.{LayoutValue, owner}
use Rattle.lrup_model.specs.declared.layout.Owner.TheVariants as owners
use Rattle.stream_check.specs.declared.params.Ownership.{Ownership}
use Rattle.stream_check.specs.declared.params.Ownership.TheVariants as ownerships

-- the layout, the cube of assumed literals, the stream's number (from 1), and how many times an
-- identity of another stream is fetched again while it is vacant
pub record StreamParams : Type 0 where
  pub layout : LayoutValue
  pub cube : CubeValue
  pub stream : ℕ
  pub tries : ℕ

-- the largest number of tries
abbrev pub max_tries : ℕ
max_tries = 1000000

-- who owns the identity, as the stream sees it
abbrev pub ownership_of : StreamParams → ℕ → Ownership
ownership_of params id =
    elim (owner params.layout id) [
      | owners.Formula ↦ ownerships.Formula
      | owners.Stream s ↦ if s == params.stream then ownerships.Own else ownerships.Foreign
      | owners.Outside ↦ ownerships.Outside
    ]

-- The stream may drop the identity, but not retire it: it is the formula's or another stream's.
abbrev pub is_shared : Ownership → Bool
is_shared ownerships.Formula = true
is_shared ownerships.Own = false
is_shared ownerships.Foreign = true
is_shared ownerships.Outside = false

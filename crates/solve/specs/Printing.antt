-- What a run of `lrup-solve` prints beside the answer's first line (this project's own).
use Rattle.std.specs.Prelude.{if◌then◌else◌, ◌++◌, ◌-◌, ◌==◌, ◌≡◌, ◌∷◌, ◌||◌, List, [], codes, map, nat_lt, pos, true, ℕ, ℤ}
use Rattle.std.specs.Fmt.{signed_decimal}
use Rattle.std.specs.List.{flat_map}
use Rattle.lrup_text.specs.declared.device.Sink as Sink
use Rattle.command.specs.Commands.{SinkTook, change}

-- a byte of the helper's, as it is printed: a question mark stands for a byte that isn't printable
-- ASCII, so also for an LF
abbrev pub shown : ℕ → ℕ
shown byte = if nat_lt byte 32 || nat_lt 126 byte then 63 else byte

-- a comment with the helper's words
abbrev pub comment_text : List ℕ → List ℕ
comment_text words = codes "c " ++ map shown words ++ codes "\n"

abbrev pub comments_text : List (List ℕ) → List ℕ
comments_text comments = flat_map comment_text comments

-- Comments were printed, or a prefix of comments if the sink failed. Nothing was done to a sink
-- that had failed.
pub record PrintsComments {W : Type 0} (its : Sink.Ghosts W) (before after : W) : Type 0 where
  pub comments : List (List ℕ)
  pub took : SinkTook (change its before after) (comments_text comments)
  pub stays : its.has_failed before ≡ true → after ≡ before

-- what comes before a value, on a line that has room for so many: a line that has none ends there,
-- and another one begins
abbrev pub value_front : ℕ → List ℕ
value_front room = if room == 0 then codes "\nv " else codes " "

-- for how many further values there is room, after one more value
abbrev pub room_after : ℕ → ℕ
room_after room = if room == 0 then 9 else room - 1

-- values, on a line that has room for so many, and on further lines
abbrev pub values_text : List ℤ → ℕ → List ℕ
values_text [] room = codes "\n"
values_text (value ∷ values) room =
    (value_front room ++ signed_decimal value) ++ values_text values (room_after room)

-- the lines of a model: its literals and a 0, ten values a line, each line after `v`
abbrev pub model_lines : List ℤ → List ℕ
model_lines literals = codes "v" ++ values_text (literals ++ pos 0 ∷ []) 10

-- What goes through a ring: the bytes of a stream, and then one mark.
use Rattle.std.specs.Prelude.{◌≡◌, ℕ, ◌<◌, ◌≤◌, ◌%◌, List, [], ◌∷◌, ◌++◌, All, map, nat_eq, if◌then◌else◌}
use Rattle.std.specs.Io.KnownBytes.{Consumes}
use Rattle.lrup_text.specs.declared.device.StreamEnd.{StreamEnd}
use Rattle.lrup_text.specs.declared.device.StreamEnd.TheVariants as stream_ends
use Rattle.lrup_text.specs.ReadOut.{EndsSo, ReadOut, SourceView}

-- the mark of a stream that ended, and of one whose read failed
abbrev pub mark_of : StreamEnd → ℕ
mark_of stream_ends.Ended = 256
mark_of stream_ends.Failed = 257

-- the stream's end that this mark stands for
abbrev pub end_of_mark : ℕ → StreamEnd
end_of_mark mark = if nat_eq mark 257 then stream_ends.Failed else stream_ends.Ended

-- the byte of an item
abbrev pub byte_of : ℕ → ℕ
byte_of item = item % 256

-- what was sent for these bytes: the bytes, and then one mark
pub record IsSentOf (bytes : List ℕ) (end : StreamEnd) (items : List ℕ) : Type 0 where
  pub small : All (λ b. b < 256) bytes
  pub items_are : items ≡ bytes ++ mark_of end ∷ []

-- What a reading thread sent: the bytes that its reader's reads gave, up to the last read, and then
-- the mark that says how the stream ended. If the bytes that the reader delivered are known, they
-- are these bytes.
pub record SendsAll (S : Type 0) (view : SourceView S) (first last : S)
    (items : List ℕ) : Type 0 where
  pub bytes : List ℕ
  pub end : StreamEnd
  pub known : Consumes (view.left first) (view.left last) bytes
  pub ends : EndsSo end (view.left last) (view.has_failed last)
  pub read : ReadOut S view.reads end first bytes last
  pub sent : IsSentOf bytes end items

-- what was received up to a mark: the bytes of the items before the mark
pub record EndsAtMark (bytes : List ℕ) (end : StreamEnd) (items : List ℕ) : Type 0 where
  pub taken : List ℕ
  pub mark : ℕ
  pub bytes_are : bytes ≡ map byte_of taken
  pub is_mark : 256 ≤ mark
  pub end_is : end ≡ end_of_mark mark
  pub items_are : items ≡ taken ++ mark ∷ []

-- what was received doesn't end with a mark: the last item, if there is one, is a byte
abbrev pub EndsBeforeMark : List ℕ → Type 0
EndsBeforeMark items = (taken : List ℕ) (item : ℕ) → items ≡ taken ++ item ∷ [] → item < 256

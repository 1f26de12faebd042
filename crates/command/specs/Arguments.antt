-- The arguments with which the program is started (this project's own).
use Rattle.std.specs.Prelude.{◌≡◌, List, codes, drop, map, string_bytes, ℕ}
use Rattle.std.specs.Vec.Iter.{into_iter_items}
use Rattle.std.specs.declared.alloc.Global.{Global}
use Rattle.std.specs.declared.io.ErrorKind.{ErrorKind}
use Rattle.std.specs.declared.io.ErrorKind.TheVariants as kinds
use Rattle.std.specs.declared.string.String.{String}
use Rattle.std.specs.declared.vec.IntoIter.{IntoIter}
use Rattle.run_files.specs.Asked.{Text}
use Rattle.run_files.specs.Faults.{error_text, status_of}
use Rattle.run_files.specs.declared.fault.CommandFault.TheVariants as faults
use Rattle.command.specs.Commands.{IsUntouched, SinkChange, SinkTook}

-- the words: the bytes of each argument after the first, which is the program's name
abbrev pub words_after_name : IntoIter (String Global) Global → List Text
words_after_name arguments = map string_bytes (drop 1 (into_iter_items arguments))

-- the message for an argument that isn't UTF-8, as `clap` words it
abbrev pub not_utf8 : List ℕ
not_utf8 = codes "error: invalid UTF-8 was detected in one or more arguments\n"

-- the message and the status if the system gives no arguments: memory ran out, or an argument isn't
-- UTF-8
abbrev pub refusal_text : ErrorKind → List ℕ
refusal_text kinds.OutOfMemory = error_text faults.Memory
refusal_text kind = not_utf8

abbrev pub refusal_status : ErrorKind → ℕ
refusal_status kinds.OutOfMemory = status_of faults.Memory
refusal_status kind = 2

-- The system gives no arguments. The program reports the cause and ends.
pub record EndsWithoutArguments (kind : ErrorKind) (out err : SinkChange)
    (status : ℕ) : Type 0 where
  pub untouched : IsUntouched out
  pub said : SinkTook err (refusal_text kind)
  pub status_is : status ≡ refusal_status kind

-- The sizes of a round.
use Rattle.std.proofs.Common.{◌∙◌, ◌≡◌, arith, inl, inr}
use Rattle.run_files.specs.Asked.{Text}
use Rattle.run_files.specs.Causes.{IsSizesCause}
use Rattle.run_files.specs.Files.{Effects}
use Rattle.run_files.specs.declared.fault.CommandFault.{CommandFault}
use Rattle.run_files.specs.declared.fault.CommandFault.TheVariants as faults
use Rattle.run_files.specs.internal.Reading.{IsUnsized}

-- why there are no sizes, if their file was opened
pub sizes_cause : (its : Effects) (before : its.State) (path : Text) (reader : its.Reader) (after : its.State)
    → its.opens before path reader after → its.reading.left reader ≡ its.contents before path
    → (fault : CommandFault) → IsUnsized its.reading reader fault → IsSizesCause its before path fault after
sizes_cause its before path reader after opened left faults.SizesUnread cause =
    inr (record { reader = reader; opened = opened; left = left; broken = cause.0; few = cause.1 })
sizes_cause its before path reader after opened left faults.Sizes (inl (bytes, whole, none, few)) =
    record {
      reader = reader;
      opened = opened;
      bytes = bytes;
      few = few;
      holds = inl (whole.gave, λ all known. whole.known all (left ∙ known), none);
    }
sizes_cause its before path reader after opened left faults.Sizes (inr (bytes, last, gave, is, known)) =
    record {
      reader = reader;
      opened = opened;
      bytes = bytes;
      few = omega (arith, is);
      holds = inr (last, gave, is, λ all same. known all (left ∙ same));
    }
sizes_cause its before path reader after opened left faults.Memory cause = inr (inr (reader, opened))
sizes_cause its before path reader after opened left fault cause = absurd cause

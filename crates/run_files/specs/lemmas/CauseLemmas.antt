-- If a step of round 1 has a fault, its cause is why round 1 has no report.
use Rattle.std.proofs.Common.{◌≡◌, List, map, Option, None, Some, inl, inr, sym, subst}
use Rattle.lrup_model.specs.Cube.{CubeValue}
use Rattle.lrup_model.specs.Formula.{Cnf}
use Rattle.command_line.specs.CommandLine.{IsCommandLineOf}
use Rattle.command_line.specs.declared.words.CommandLine.{CommandLine}
use Rattle.run_files.specs.Asked.{Text, assumed_at, sizes_of}
use Rattle.run_files.specs.Causes.{IsAssumeCause, IsCause, IsOpenCause, IsReadCause, IsRoundStartCause}
use Rattle.run_files.specs.Files.{AreAssumed, AreOpened, FilesView, IsFormulaAt, WasReadIn}
use Rattle.run_files.specs.declared.fault.CommandFault.{CommandFault}
use Rattle.run_files.specs.declared.fault.CommandFault.TheVariants as faults

module _ (files : FilesView) (words : List Text) (given : CommandLine)
    (line : IsCommandLineOf words given) where
  -- The cause of a fault in any step meets `IsCause`.
  pub read_cause : (fault : CommandFault) (after : files.its.State)
      → IsReadCause files given fault after → IsCause files words fault after
  read_cause faults.Unread after cause = (given, line, inl cause)
  read_cause (faults.Refused fault) after cause = (given, line, inl cause)
  read_cause faults.Memory after cause = inr (given, line, inl cause)
  read_cause fault after cause = absurd cause

  module _ (f : Cnf) (next : files.its.State)
      (at : IsFormulaAt files given.formula.now f next) where
    assume_cause : (path : Text) → assumed_at given ≡ Some path → (fault : CommandFault)
        (after : files.its.State) → IsAssumeCause files f.vars next (Some path) fault after
        → IsCause files words fault after
    assume_cause path same faults.CubeUnread after cause = (
      given,
      line,
      inr (
        f,
        next,
        at,
        inl (subst (λ (o : Option Text). IsAssumeCause files f.vars next o
            faults.CubeUnread after) (sym same) cause),
      ),
    )
    assume_cause path same (faults.CubeRefused fault) after cause = (
      given,
      line,
      inr (
        f,
        next,
        at,
        inl (subst (λ (o : Option Text). IsAssumeCause files f.vars next o
            (faults.CubeRefused fault) after) (sym same) cause),
      ),
    )
    assume_cause path same faults.Memory after cause = inr (
      given,
      line,
      inr (
        f,
        next,
        at,
        inl (subst (λ (o : Option Text). IsAssumeCause files f.vars next o
            faults.Memory after) (sym same) cause),
      ),
    )
    assume_cause path same fault after cause = absurd cause

    pub assumed_cause : (path : Option Text) → assumed_at given ≡ path → (fault : CommandFault)
        (after : files.its.State) → IsAssumeCause files f.vars next path fault after
        → IsCause files words fault after
    assumed_cause None same fault after cause = absurd cause
    assumed_cause (Some path) same fault after cause = assume_cause path same fault after cause

    module _ (cube : CubeValue) (later : files.its.State)
        (assumed : AreAssumed (WasReadIn files) f.vars next (assumed_at given) cube later) where
      pub open_cause : (fault : CommandFault) (after : files.its.State)
          → IsOpenCause files.its 0 later given.streams fault after
          → IsCause files words fault after
      open_cause (faults.NotOpened stream) after cause =
          (given, line, inr (f, next, at, inr (cube, later, assumed, inl cause)))
      open_cause faults.Memory after cause =
          inr (given, line, inr (f, next, at, inr (cube, later, assumed, inl cause)))
      open_cause fault after cause = absurd cause

      pub start_cause : (readers : List files.its.Reader) (last : files.its.State)
          → AreOpened files.its.opens later given.streams readers last
          → map files.its.reading.left readers ≡ map files.contents given.streams
          → (fault : CommandFault) (after : files.its.State)
          → IsRoundStartCause files.its given cube 1 f (sizes_of given) readers last fault after
          → IsCause files words fault after
      start_cause readers last opened left (faults.Layout fault) after cause = (
        given,
        line,
        inr (f, next, at, inr (cube, later, assumed, inr (readers, last, opened, left, cause))),
      )
      start_cause readers last opened left faults.NotCreated after cause = (
        given,
        line,
        inr (f, next, at, inr (cube, later, assumed, inr (readers, last, opened, left, cause))),
      )
      start_cause readers last opened left (faults.Spawn stream) after cause = (
        given,
        line,
        inr (f, next, at, inr (cube, later, assumed, inr (readers, last, opened, left, cause))),
      )
      start_cause readers last opened left (faults.Ring stream) after cause = (
        given,
        line,
        inr (f, next, at, inr (cube, later, assumed, inr (readers, last, opened, left, cause))),
      )
      start_cause readers last opened left faults.Memory after cause = inr (
        given,
        line,
        inr (f, next, at, inr (cube, later, assumed, inr (readers, last, opened, left, cause))),
      )
      start_cause readers last opened left fault after cause = absurd cause

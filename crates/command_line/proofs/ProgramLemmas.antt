-- The command after a parse: its arguments are those of `lrupd`, built or not.
use Rattle.std.proofs.Common.{◌≡◌, ◌∙◌, ◌⊎◌, ◌<◌, ap, sym, subst, refl, inl, inr, arith, ℕ, true, zero, suc, List, [], ◌∷◌, map, length}
use Rattle.std.specs.List.{list_all, slice_index_or}
use Rattle.clap.specs.Words.{App, BuildsOrBreaks, Rule, app_of, args_of, built, is_broken, rule_of}
use Rattle.clap.specs.Simple.{HasReadyLeaves, IsSimple, is_buildable, is_ready, is_ready_leaf, shape_of}
use Rattle.clap.specs.declared.builder.arg.Arg.{Arg}
use Rattle.clap.specs.declared.builder.command.Command.{Command}
use Rattle.clap.proofs.SimpleLemmas.{ready_simple}
use Rattle.command_line.specs.CommandLine.{lrupd}

-- the command is `lrupd`, built or not
abbrev pub IsProgram : Command → Type 0
IsProgram d = (app_of d ≡ lrupd) ⊎ (app_of d ≡ built lrupd)

buildable : is_buildable lrupd ≡ true
buildable = refl

pub is_program : (c d : Command) → app_of c ≡ lrupd → BuildsOrBreaks c d → (is_broken d ≡ true → ⊥) → IsProgram d
is_program c d is after whole = elim after [
  | inl broken ↦ absurd (whole broken)
  | inr kept ↦ elim kept.2 [
    | inl same ↦ inl (same ∙ is)
    | inr build ↦ inr (build (ap is_buildable is ∙ buildable) ∙ ap built is)
  ]
]

-- the command is simple: no argument has a delimiter, and there is no group
pub program_simple : (d : Command) → IsProgram d → IsSimple d
program_simple d is = ready_simple d (ready is) (leaves is)
  where
    ready : IsProgram d → is_ready (shape_of d) ≡ true
    ready (inl e) = ap (λ (a : App). is_ready a.top) e ∙ refl
    ready (inr e) = ap (λ (a : App). is_ready a.top) e ∙ refl

    leaves : IsProgram d → HasReadyLeaves d
    leaves (inl e) = ap (λ (a : App). list_all is_ready_leaf a.subs) e ∙ refl
    leaves (inr e) = ap (λ (a : App). list_all is_ready_leaf a.subs) e ∙ refl

-- P holds of each rule of a list
abbrev pub EachRule : (Rule → Type 0) → List Rule → Type 0
EachRule P [] = Unit {0}
EachRule P (r ∷ rs) = P r × EachRule P rs

rule_at : (P : Rule → Type 0) (xs : List Arg) (k : ℕ) (x : Arg) → EachRule P (map rule_of xs) → k < length xs
    → slice_index_or xs k x ≡ x → P (rule_of x)
rule_at P [] k x each lt at = absurd (omega arith)
rule_at P (y ∷ ys) zero x each lt at = subst (λ z. P (rule_of z)) at each.0
rule_at P (y ∷ ys) (suc k) x each lt at = rule_at P ys k x each.1 (omega arith) at

-- P holds of each argument's rule, before and after building
abbrev pub EachArgument : (Rule → Type 0) → Type 0
EachArgument P = EachRule P lrupd.top.rules × EachRule P (built lrupd).top.rules

pub argument_has : (P : Rule → Type 0) (d : Command) → IsProgram d → EachArgument P → (k : ℕ) (x : Arg) → k < length (args_of d)
    → slice_index_or (args_of d) k x ≡ x → P (rule_of x)
argument_has P d is holds k x lt at = rule_at P (args_of d) k x (each is) lt at
  where
    each : IsProgram d → EachRule P (map rule_of (args_of d))
    each (inl e) = subst (λ (a : App). EachRule P a.top.rules) (sym e) holds.0
    each (inr e) = subst (λ (a : App). EachRule P a.top.rules) (sym e) holds.1

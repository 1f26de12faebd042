-- The text of a cube has no fault.
use Rattle.std.proofs.Common.{ℕ, ℤ, inl, inr, List, [], ◌∷◌, map, sym, ◌∙◌}
use Rattle.std.specs.Fmt.{signed_decimal}
use Rattle.std.proofs.lemmas.List.{append_assoc}
use Rattle.lrup_text.specs.declared.cube.CubeFault.TheVariants.{Spelling, TooLong, Range, Memory}
use Rattle.lrup_text.specs.Cubes.{IsLiteralsText, IsCubeLine, BeginsNone, TextHasNoFault}
use Rattle.lrup_text.specs.Grammar.{standard, SpellsLiteral}
use Rattle.lrup_text.specs.Lines.{IsStreamLiteral}
use Rattle.lrup_text.proofs.TextLaws.{signed_word, few_map}

text_is_line : (literals : List ℤ) (bytes : List ℕ) → IsLiteralsText literals bytes → IsCubeLine standard bytes
text_is_line literals bytes text =
    (map signed_decimal literals, few_map 65535 signed_decimal IsStreamLiteral (SpellsLiteral 18) signed_word literals text.few, text.is)

-- each prefix of a cube's text may still become a cube's text
none_breaks : (bytes : List ℕ) (Shortest : List ℕ → Type 0) → IsCubeLine standard bytes → BeginsNone IsCubeLine bytes Shortest → ⊥
none_breaks bytes Shortest line h = h.none (h.after, rw (h.is ∙ sym (append_assoc h.read (h.byte ∷ []) h.after)) at line)

pub text_has_no_fault : TextHasNoFault
text_has_no_fault literals bytes Spelling text (inl early) = early.1 (text_is_line literals bytes text)
text_has_no_fault literals bytes Spelling text (inr none) = none_breaks bytes _ (text_is_line literals bytes text) none
text_has_no_fault literals bytes TooLong text none = none_breaks bytes _ (text_is_line literals bytes text) none
text_has_no_fault literals bytes Range text h = h
text_has_no_fault literals bytes Memory text h = h

-- The text that is printed for a cube is read back as the cube's literals.
use Rattle.std.proofs.Common.{ℕ, ℤ, pos, negsuc, ◌<◌, ◌^◌, List, [], ◌∷◌, sym, ◌∙◌, arith}
use Rattle.std.specs.Fmt.{signed_decimal}
use Rattle.lrup_model.specs.Cube.{CubeValue, IsCubeOf, IsCubeOver}
use Rattle.lrup_model.specs.lemmas.ListLemmas.{All-map}
use Rattle.lrup_model.specs.Literal.{IsLiteral}
use Rattle.lrup_text.specs.Cubes.{IsLiteralsText, IsCubeText, CubeTextIsRead}
use Rattle.lrup_text.specs.internal.ByteNames.{line_feed}
use Rattle.lrup_text.specs.Lines.{IsStreamLiteral}
use Rattle.lrup_text.specs.internal.Reading.{words_text}
use Rattle.lrup_text.proofs.Bytes.{words_end}

stream_literal : (vars : ℕ) → vars < 10 ^ 18 → (z : ℤ) → IsLiteral vars z → IsStreamLiteral z
stream_literal vars few (pos n) is = (is.0, omega (arith, few, is.1))
stream_literal vars few (negsuc n) is = (is.0, omega (arith, few, is.1))

pub printed_cube : (vars : ℕ) (literals : List ℤ) (bytes : List ℕ) (cube : CubeValue) → IsLiteralsText literals bytes
    → IsCubeOver vars literals → IsCubeOf literals cube → IsCubeText vars bytes cube
unfolding words_text
printed_cube vars literals bytes cube text over set = record {
  literals = literals;
  text = text.is ∙ sym (words_end signed_decimal literals (line_feed ∷ []));
  few = text.few.count;
  over = over;
  set = set;
}

read_cube : (vars : ℕ) (bytes : List ℕ) (cube : CubeValue) → vars < 10 ^ 18 → (h : IsCubeText vars bytes cube)
    → IsLiteralsText h.literals bytes
unfolding words_text
read_cube vars bytes cube few h = record {
  few = record { count = h.few; each = All-map (IsLiteral vars) IsStreamLiteral (stream_literal vars few) h.literals h.over };
  is = h.text ∙ words_end signed_decimal h.literals (line_feed ∷ []);
}

pub cube_text_is_read : CubeTextIsRead
cube_text_is_read vars bytes cube few = (
  λ h. (h.literals, read_cube vars bytes cube few h, h.over, h.set),
  λ h. printed_cube vars h.0 bytes cube h.1 h.2 h.3,
)

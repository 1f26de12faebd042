-- The faults of a cube's text are those of the import that has the text as its list of literals.
use Rattle.std.proofs.Common.{◌≡◌, ℕ, ◌+◌, ◌≤◌, inl, inr, Bool, true, false, List, [], ◌∷◌, ◌++◌, length, sym, ◌∙◌, ap, subst, refl, arith}
use Rattle.std.proofs.lemmas.Bool.{cases_eq}
use Rattle.std.proofs.lemmas.List.{append_assoc, append-nil}
use Rattle.lrup_text.specs.declared.LineFault.{LineFault}
use Rattle.lrup_text.specs.declared.LineFault.TheVariants as lines
use Rattle.lrup_text.specs.declared.cube.CubeFault.{CubeFault}
use Rattle.lrup_text.specs.declared.cube.CubeFault.TheVariants.{Spelling, TooLong}
use Rattle.lrup_text.specs.internal.CubeReading.{EndsAtSpot, IsRestFault, import_front}
use Rattle.lrup_text.specs.Cubes.{IsCubeLine, BeginsOne, BeginsOneLifted, BeginsNone, IsTextFault}
use Rattle.lrup_text.specs.Faults.{IsRefused}
use Rattle.lrup_text.specs.internal.ByteNames.{line_feed, letter_i, zero_digit}
use Rattle.lrup_text.specs.Writing.{space}
use Rattle.lrup_text.specs.Grammar.{Limits, AreLifted, standard, IsLine, clause_text}
use Rattle.lrup_text.specs.internal.Rests.{Spot, AtStart, InLead, AfterImport, BeforeLiteral, AtEnd, BodyFollows, Moves, Blocks}
use Rattle.lrup_text.proofs.Decisions.{decides_spelling, decides_long}
use Rattle.lrup_text.proofs.Steps.{IsBounded, Exceeds, tracks_more, tracks_begins, standard_lifted, at_start, start_digit, lead_space}
use Rattle.lrup_text.proofs.Steps.{body_import, import_space, body_end, end_blocks}
use Rattle.lrup_text.proofs.Streams.{texts_are_lines}
use Rattle.lrup_text.proofs.TextLaws.{tracks_pending}

pub nothing_read : EndsAtSpot [] (BeforeLiteral true 0)
nothing_read =
    let lead = tracks_more [] AtStart (InLead 1) 49 at_start (start_digit 49 (omega arith) (omega arith)) in
    let body = tracks_more (49 ∷ []) (InLead 1) (BeforeLiteral false 0) space lead (lead_space 1 (omega arith)) in
    let letter = tracks_more (49 ∷ space ∷ []) (BeforeLiteral false 0) AfterImport letter_i body body_import in
    tracks_more (49 ∷ space ∷ letter_i ∷ []) AfterImport (BeforeLiteral true 0) space letter import_space

-- A text is a cube's text exactly if `import_front` followed by the text is a line.

module _ (limits : Limits) (lifted : AreLifted false limits) (bytes : List ℕ) where
  line_of_cube : IsCubeLine limits bytes → IsLine limits (import_front ++ bytes)
  line_of_cube h =
      let few : length h.0 ≤ limits.literals = h.1.count in
      nothing_read.line false limits lifted bytes
      (inl (record { words = h.0; count = omega arith; each = h.1.each; after = line_feed ∷ []; is = h.2; end = refl }))

  cube_of_line : IsLine limits (import_front ++ bytes) → IsCubeLine limits bytes
  cube_of_line h = list (nothing_read.completes false limits lifted bytes h)
    where
      list : BodyFollows limits true 0 bytes → IsCubeLine limits bytes
      list (inl c) = let few : 0 + length c.words ≤ limits.literals = c.count in
          (c.words, record { count = omega arith; each = c.each }, c.is ∙ ap (clause_text c.words) c.end)
      list (inr c) = let e : true ≡ false = c.1 in cc

begins_line : (limits : Limits) → AreLifted false limits → (bytes : List ℕ) → BeginsOne IsCubeLine limits bytes
    → (rest : List ℕ) × IsLine limits ((import_front ++ bytes) ++ rest)
begins_line limits lifted bytes h = (h.0, line_of_cube limits lifted (bytes ++ h.0) h.1)

begins_cube : (limits : Limits) → AreLifted false limits → (bytes : List ℕ)
    → ((rest : List ℕ) × IsLine limits ((import_front ++ bytes) ++ rest)) → BeginsOne IsCubeLine limits bytes
begins_cube limits lifted bytes h = (h.0, cube_of_line limits lifted (bytes ++ h.0) h.1)

-- A byte that decides that the line has a fault decides that the text has this fault, too.

module _ (read : List ℕ) (spot : Spot) (byte : ℕ) (after : List ℕ) (occurs : EndsAtSpot read spot) (bounded : IsBounded spot) where
  none : (fault : LineFault) (Shortest : List ℕ → Type 0) → IsRefused ((import_front ++ read) ++ byte ∷ []) fault
      → Shortest (read ++ byte ∷ []) → BeginsNone IsCubeLine (read ++ byte ∷ after) Shortest
  none fault Shortest h shortest = record {
    read = read;
    byte = byte;
    after = after;
    is = refl;
    before = begins_cube standard standard_lifted read (tracks_begins (import_front ++ read) spot occurs bounded);
    none = λ b. h.after (begins_line standard standard_lifted (read ++ byte ∷ []) b);
    shortest = shortest;
  }

  pub misspelled : ((signed : Bool) → Blocks signed spot byte) → IsTextFault IsCubeLine (read ++ byte ∷ after) Spelling
  misspelled blocks =
      let h = decides_spelling (import_front ++ read) spot byte occurs bounded blocks in
      inr (none lines.Spelling (λ s. ¬ BeginsOneLifted IsCubeLine s) h
      (λ l. let line = begins_line l.0 l.1 (read ++ byte ∷ []) l.2 in h.why.0 (l.0, line.0, l.1, line.1)))

  pub too_long : Exceeds spot byte → IsTextFault IsCubeLine (read ++ byte ∷ after) TooLong
  too_long exceeds =
      let h = decides_long (import_front ++ read) spot byte occurs bounded exceeds in
      none lines.TooLong (BeginsOneLifted IsCubeLine) h
      (h.why.0, h.why.2, begins_cube h.why.0 h.why.2 (read ++ byte ∷ []) (h.why.1, h.why.3))

-- if `byte` moves from `spot` to `next`, a fault of the text after it, from `next` on, is also a
-- fault of the text that begins with `byte`, from `spot` on
pub rest_fault : (spot next : ℕ → Spot) (byte : ℕ) (after : List ℕ) (fault : CubeFault) → ((n : ℕ) → Moves (spot n) byte (next n))
    → IsRestFault next after fault → IsRestFault spot (byte ∷ after) fault
rest_fault spot next byte after fault moves h read n few occurs =
    subst (λ t. IsTextFault IsCubeLine t fault) (append_assoc read (byte ∷ []) after)
    (h (read ++ byte ∷ []) n few (tracks_more (import_front ++ read) (spot n) (next n) byte occurs (moves n)))

-- a text that ends before the LF is misspelled
pub too_short : (read : List ℕ) (spot : Spot) → EndsAtSpot read spot → IsBounded spot → IsTextFault IsCubeLine (read ++ []) Spelling
too_short read spot occurs bounded =
    let line = import_front ++ read in
    rw (append-nil read) (inl (
      begins_cube standard standard_lifted read (tracks_begins line spot occurs bounded),
      λ cube.
          let whole = (texts_are_lines line).0 (line_of_cube standard standard_lifted read cube) in
          (tracks_pending line spot occurs bounded).whole whole.0 [] whole.1.0 (whole.1.1 ∙ sym (append-nil _)),
    ))

-- a text with bytes after the LF is misspelled
too_much : (read : List ℕ) (byte : ℕ) (after : List ℕ) → EndsAtSpot read AtEnd
    → IsTextFault IsCubeLine (read ++ line_feed ∷ byte ∷ after) Spelling
too_much read byte after occurs = inr (record {
  read = line;
  byte = byte;
  after = after;
  is = sym (append_assoc read (line_feed ∷ []) (byte ∷ after));
  before = begins_cube standard standard_lifted line (
    [],
    rw (append-nil line) (occurs.line false standard standard_lifted (line_feed ∷ []) refl),
  );
  none = λ h. never standard standard_lifted h.0 h.1;
  shortest = λ l. never l.0 l.1 l.2.0 l.2.1;
})
  where
    line : List ℕ
    line = read ++ line_feed ∷ []

    never : (limits : Limits) → AreLifted false limits → (rest : List ℕ) → ¬ IsCubeLine limits ((line ++ byte ∷ []) ++ rest)
    never limits lifted rest h =
        let longer : (line ++ byte ∷ []) ++ rest ≡ read ++ line_feed ∷ byte ∷ rest = append_assoc line (byte ∷ []) rest
        ∙ append_assoc read (line_feed ∷ []) (byte ∷ rest) in
        let end : line_feed ∷ byte ∷ rest ≡ line_feed ∷ [] =
        occurs.completes false limits lifted _ (subst (λ t. IsLine limits (import_front ++ t)) longer (line_of_cube limits lifted _ h)) in
        cc

-- a text in which anything but LF follows the closing 0 is misspelled
pub wrong_end : (read : List ℕ) (n : ℕ) (after : List ℕ) → EndsAtSpot read (BeforeLiteral true n) → n ≤ 65535 → ¬ (after ≡ line_feed ∷ [])
    → IsTextFault IsCubeLine (read ++ zero_digit ∷ after) Spelling
wrong_end read n after occurs few other = rw (append_assoc read (zero_digit ∷ []) after) at (cases after other)
  where
    closed : List ℕ
    closed = read ++ zero_digit ∷ []

    ends : EndsAtSpot closed AtEnd
    ends = tracks_more (import_front ++ read) (BeforeLiteral true n) AtEnd zero_digit occurs (body_end n few)

    cases : (after : List ℕ) → ¬ (after ≡ line_feed ∷ []) → IsTextFault IsCubeLine (closed ++ after) Spelling
    cases [] other = too_short closed AtEnd ends tt
    cases (c ∷ more) other = elim (cases_eq c line_feed) [
      | inl e ↦ subst (λ x. IsTextFault IsCubeLine (closed ++ x ∷ more) Spelling) (sym e)
          (follows more (λ is. other (ap (λ x. x ∷ more) e ∙ ap (λ t. line_feed ∷ t) is)))
      | inr ne ↦ misspelled closed AtEnd c more ends tt (λ signed. end_blocks signed c ne)
    ]
      where
        follows : (more : List ℕ) → ¬ (more ≡ []) → IsTextFault IsCubeLine (closed ++ line_feed ∷ more) Spelling
        follows [] some = absurd (some refl)
        follows (d ∷ more) some = too_much closed d more ends

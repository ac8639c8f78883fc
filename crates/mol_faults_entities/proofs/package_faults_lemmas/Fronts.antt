-- Texts that begin with a front, in the order of bytes; and when a full name with a dot begins a package with a dot.
use Rattle.std.proofs.Common.{◌≡◌, ◌⊎◌, inl, inr, ℕ, Bool, true, false, ◌==◌, [], ◌∷◌, ◌++◌, refl, sym, ◌∙◌, ap, arith, true≢false, nat_cmp, Ordering, Less, Equal, Greater}
use Rattle.std.specs.Cmp.Lexicographic.{slice_cmp}
use Rattle.std.specs.Ordering.{is_lt, ordering_then}
use Rattle.std.proofs.lemmas.Bool.Decides.{Decides-and, Decides-eqb}
use Rattle.std.proofs.lemmas.Cmp.{ranked}
use Rattle.jav_names.specs.DottedNames.{Name, dot}
use Rattle.mol_resolve_rules.specs.ResolveFaults.{BeginsWith}
use Rattle.mol_faults_entities.specs.package_faults.Packages.{begins}

abbrev before : Name → Name → Bool
before first second = is_lt (slice_cmp nat_cmp first second)

-- ---- byte by byte

cut : (byte first : ℕ) (text front : Name) → begins (first ∷ front) (byte ∷ text) ≡ true → (first ≡ byte) × (begins front text ≡ true)
cut byte first text front = (Decides-and (first == byte) (begins front text) (Decides-eqb first byte) (λ yes. yes, λ yes. yes)).0

joined : (byte first : ℕ) (text front : Name) → first ≡ byte → begins front text ≡ true → begins (first ∷ front) (byte ∷ text) ≡ true
joined byte first text front same is =
    (Decides-and (first == byte) (begins front text) (Decides-eqb first byte) (λ yes. yes, λ yes. yes)).1 (same, is)

nothing-begins : (text : Name) → begins [] text ≡ true
nothing-begins [] = refl
nothing-begins (byte ∷ text) = refl

-- ---- in order

pub not-before : (front text : Name) → begins front text ≡ true → before text front ≡ false
not-before [] [] is = refl
not-before [] (byte ∷ text) is = refl
not-before (first ∷ front) [] is = absurd (true≢false (sym is))
not-before (first ∷ front) (byte ∷ text) is =
    let both = cut byte first text front is in
    by (nat_cmp byte first) refl both.0 (not-before front text both.1) where
      by : (o : Ordering) → nat_cmp byte first ≡ o → first ≡ byte → before text front ≡ false
          → is_lt (ordering_then o (slice_cmp nat_cmp text front)) ≡ false
      by Less less same rest = absurd (omega (arith, ranked byte first Less (sym less), same))
      by Equal tied same rest = rest
      by Greater more same rest = refl

-- what stands between a front and a text that begins with it begins with it too
pub between : (front text later : Name) → before text front ≡ false → before later text ≡ false → begins front later ≡ true
    → begins front text ≡ true
between [] text later from up is = nothing-begins text
between (first ∷ front) text [] from up is = absurd (true≢false (sym is))
between (first ∷ front) [] (last ∷ later) from up is = absurd (true≢false from)
between (first ∷ front) (byte ∷ text) (last ∷ later) from up is =
    let both = cut last first later front is in
    by (nat_cmp byte first) refl (nat_cmp last byte) refl both.0 (λ on up_on. between front text later on up_on both.1) where
      lower : (o : Ordering) → nat_cmp byte first ≡ o → is_lt (ordering_then o (slice_cmp nat_cmp text front)) ≡ false
      lower o is = sym (ap (λ o. is_lt (ordering_then o (slice_cmp nat_cmp text front))) is) ∙ from

      higher : (o : Ordering) → nat_cmp last byte ≡ o → is_lt (ordering_then o (slice_cmp nat_cmp later text)) ≡ false
      higher o is = sym (ap (λ o. is_lt (ordering_then o (slice_cmp nat_cmp later text))) is) ∙ up

      by : (o : Ordering) → nat_cmp byte first ≡ o → (p : Ordering) → nat_cmp last byte ≡ p → first ≡ last
          → (before text front ≡ false → before later text ≡ false → begins front text ≡ true) → begins (first ∷ front) (byte ∷ text) ≡ true
      by Less less p then same rest = absurd (true≢false (lower Less less))
      by Equal tied Less less same rest = absurd (true≢false (higher Less less))
      by Equal tied Equal alike same rest =
          joined byte first text front (sym (ranked byte first Equal (sym tied))) (rest (lower Equal tied) (higher Equal alike))
      by Equal tied Greater more same rest =
          absurd (omega (arith, ranked byte first Equal (sym tied), ranked last byte Greater (sym more), same))
      by Greater more Less less same rest = absurd (true≢false (higher Less less))
      by Greater more Equal alike same rest =
          absurd (omega (arith, ranked byte first Greater (sym more), ranked last byte Equal (sym alike), same))
      by Greater more Greater most same rest =
          absurd (omega (arith, ranked byte first Greater (sym more), ranked last byte Greater (sym most), same))

-- ---- names with a dot behind

dotted-long : (name : Name) → begins (name ++ dot ∷ []) [] ≡ false
dotted-long [] = refl
dotted-long (first ∷ name) = refl

-- a text is the name, or begins with it and a dot
pub inside-if_begins : (name text : Name) → begins (name ++ dot ∷ []) (text ++ dot ∷ []) ≡ true → (text ≡ name) ⊎ BeginsWith text name
inside-if_begins [] [] is = inl refl
inside-if_begins [] (byte ∷ text) is =
    let both = cut byte dot (text ++ dot ∷ []) [] is in
    inr (record { rest = text; is = ap (λ b. b ∷ text) (sym both.0) })
inside-if_begins (first ∷ name) [] is =
    absurd (true≢false (sym (cut dot first [] (name ++ dot ∷ []) is).1 ∙ dotted-long name))
inside-if_begins (first ∷ name) (byte ∷ text) is =
    let both = cut byte first (text ++ dot ∷ []) (name ++ dot ∷ []) is in
    by (inside-if_begins name text both.1) both.0 where
      by : (text ≡ name) ⊎ BeginsWith text name → first ≡ byte → (byte ∷ text ≡ first ∷ name) ⊎ BeginsWith (byte ∷ text) (first ∷ name)
      by (inl same) head = inl (λ i. sym head i ∷ same i)
      by (inr begun) head = inr (record { rest = begun.rest; is = λ i. sym head i ∷ begun.is i })

begins-itself : (text : Name) → begins text text ≡ true
begins-itself [] = refl
begins-itself (byte ∷ text) = joined byte byte text text refl (begins-itself text)

begins-on : (name rest : Name) → begins (name ++ dot ∷ []) ((name ++ dot ∷ rest) ++ dot ∷ []) ≡ true
begins-on [] rest = joined dot dot (rest ++ dot ∷ []) [] refl (nothing-begins (rest ++ dot ∷ []))
begins-on (first ∷ name) rest =
    joined first first ((name ++ dot ∷ rest) ++ dot ∷ []) (name ++ dot ∷ []) refl (begins-on name rest)

pub begins-if_inside : (name text : Name) → (text ≡ name) ⊎ BeginsWith text name → begins (name ++ dot ∷ []) (text ++ dot ∷ []) ≡ true
begins-if_inside name text (inl same) = ap (λ t. begins (name ++ dot ∷ []) (t ++ dot ∷ [])) same ∙ begins-itself (name ++ dot ∷ [])
begins-if_inside name text (inr begun) =
    ap (λ t. begins (name ++ dot ∷ []) (t ++ dot ∷ [])) begun.is ∙ begins-on name begun.rest

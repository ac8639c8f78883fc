-- Worked examples of flaws, from their forms alone.
use Rattle.std.proofs.Common.{◌≡◌, inl, ℕ, ◌+◌, List, [], ◌∷◌, ◌++◌, length, refl, ap, arith, length-append}
use Rattle.std.specs.Prelude.{IsTrue, codes}
use Rattle.std.proofs.lemmas.List.Elements.{All-from_recursion}
use Rattle.mol_base.specs.Lexical.Numbers.{is_run_byte, is_float}
use Rattle.mol_base.specs.Lexical.Flaws.{IsFlaw, IsRun, IsFloatLiteral, dot_after, letter, dot_before, end, plain, pair}
use Rattle.mol_base.specs.declared.lexical.front.Flaw.TheVariants.{OpenComment, BadEscape, FloatLiteral, TextBlock}

text_block : IsFlaw TextBlock 0 (codes "\"\"\"x")
text_block = (refl, record { after = codes "x"; spelled = refl })

-- the `*` of `/*` is no part of an end
comment_of_three : IsFlaw OpenComment 0 (codes "/*/")
comment_of_three = (
  refl,
  record {
    after = codes "/";
    spelled = refl;
    never_ends = λ body rest e.
        let len = ap (λ (xs : List ℕ). length xs) e in
        omega (arith, length-append (body ++ codes "*/") rest, length-append body (codes "*/"));
  },
)

comment_that_ends : IsFlaw OpenComment 0 (codes "/**/") → ⊥
comment_that_ends is =
    let spelled = is.1.spelled in
    let after : is.1.after ≡ codes "*/" = cc in
    is.1.never_ends [] [] after

run_of_one : IsRun (codes "1.5") (codes "1") (codes ".5")
run_of_one = record { spelled = refl; digit = refl; each = All-from_recursion (λ b. IsTrue (is_run_byte b)) (codes "1") (refl, tt); longest = refl }

float_with_dot : IsFlaw FloatLiteral 0 (codes "1.5")
float_with_dot = (refl, dot_after (codes "1") (codes ".5") run_of_one refl)

float_from_dot : IsFlaw FloatLiteral 0 (codes ".5")
float_from_dot = (refl, dot_before 53 [] refl refl)

run_with_exponent : IsRun (codes "1e3;") (codes "1e3") (codes ";")
run_with_exponent = record { spelled = refl; digit = refl; each = All-from_recursion (λ b. IsTrue (is_run_byte b)) (codes "1e3") (refl, (refl, (refl, tt))); longest = refl }

float_with_exponent : IsFlaw FloatLiteral 0 (codes "1e3;")
unfolding is_float
float_with_exponent = (refl, letter (codes "1e3") (codes ";") run_with_exponent refl)

-- the first of two bad escapes, in a literal that ends
bad_escape : IsFlaw BadEscape 4 (codes "\"a\\n\\q\\w\" b")
bad_escape = record {
  quote = 34;
  good = codes "a\\n";
  bad = 113;
  others = codes "\\w";
  after = codes " b";
  is_quote = inl refl;
  spelled = refl;
  closed = plain 97 _ refl (pair 110 _ refl (pair 113 _ refl (pair 119 [] refl end)));
  escapes = plain 97 _ refl (pair 110 [] refl end);
  no_escape = refl;
  place = refl;
}

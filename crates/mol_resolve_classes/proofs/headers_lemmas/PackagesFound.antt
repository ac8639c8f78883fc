-- A full name is a package, or one is in it, where a package with a dot begins with it and a dot.
use Rattle.std.proofs.Common.{◌≡◌, ℕ, ◌==◌, Bool, true, false, ◌&&◌, ◌||◌, List, [], ◌∷◌, ◌++◌, map, refl, sym, ◌∙◌}
use Rattle.std.specs.List.{list_any}
use Rattle.std.specs.List.Sorted.{IsPermutation}
use Rattle.std.specs.Str.{bytes_eq}
use Rattle.std.proofs.lemmas.Bool.Decides.{Decides-eqb, same_from_decides}
use Rattle.std.proofs.lemmas.List.Sorted.{list_any-IsPermutation}
use Rattle.jav_scope.specs.declared.source.SourceUnit.{SourceUnit}
use Rattle.jav_names.specs.DottedNames.{Name, dot}
use Rattle.mol_resolve_rules.specs.FaultLists.{begins_with, is_inside}
use Rattle.mol_resolve_members.specs.sources.Sources.{files_of}
use Rattle.mol_resolve_classes.specs.headers.Headers.{name_of}
use Rattle.mol_resolve_classes.specs.headers.Packages.{begins, dotted_name, dotted_package}

eqb-turned : (a b : ℕ) → (a == b) ≡ (b == a)
eqb-turned a b =
    same_from_decides (a == b) (b == a) (Decides-eqb a b) (λ yes. sym ((Decides-eqb b a).0 yes), λ same. (Decides-eqb b a).1 (sym same))

with-true : (b : Bool) → b ≡ (b && true)
with-true true = refl
with-true false = refl

with-false : (b c : Bool) → c ≡ false → false ≡ (b && c)
with-false true c is = sym is
with-false false c is = refl

either-behind : (b c d : Bool) → ((b && c) || (b && d)) ≡ (b && (c || d))
either-behind true c d = refl
either-behind false c d = refl

nothing-begins : (name : Name) → begins (name ++ dot ∷ []) [] ≡ false
nothing-begins [] = refl
nothing-begins (first ∷ name) = refl

inside-begins : (name text : Name) → (bytes_eq text name || begins_with text name) ≡ begins (name ++ dot ∷ []) (text ++ dot ∷ [])
inside-begins [] [] = refl
inside-begins [] (byte ∷ text) = eqb-turned byte dot ∙ with-true (dot == byte)
inside-begins (first ∷ name) [] = with-false (first == dot) (begins (name ++ dot ∷ []) []) (nothing-begins name)
inside-begins (first ∷ name) (byte ∷ text) =
    either-behind (byte == first) (bytes_eq text name) (begins_with text name)
    ∙ (λ i. eqb-turned byte first i && inside-begins name text i)

all-inside : (name : Name) (sources : List SourceUnit)
    → list_any (is_inside name) (files_of sources) ≡ list_any (begins (name ++ dot ∷ [])) (map dotted_package sources)
all-inside name [] = refl
all-inside name (source ∷ sources) = λ i. inside-begins name source.unit.«package» i || all-inside name sources i

-- whatever the order of the packages
pub package-is : (sources : List SourceUnit) (packages : List Name) → IsPermutation (map dotted_package sources) packages
    → (source : SourceUnit) → list_any (begins (dotted_name source)) packages ≡ list_any (is_inside (name_of source)) (files_of sources)
package-is sources packages permuted source =
    sym (list_any-IsPermutation (begins (dotted_name source)) (map dotted_package sources) packages permuted)
    ∙ sym (all-inside (name_of source) sources)

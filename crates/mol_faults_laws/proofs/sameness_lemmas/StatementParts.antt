-- Parts of statements that are written alike, one after the other.
use Rattle.std.proofs.Common.{List, [], ap, refl, ◌++◌, ◌∙◌, ◌∷◌, ◌≡◌}
use Rattle.std.specs.List.{AllByRecursion}
use Rattle.std.specs.Prelude.{map}
use Rattle.jav_names.specs.DottedNames.{Name}
use Rattle.jav_names.specs.Views.{ViewType}
use Rattle.mol_base.specs.declared.ident.Id.{Id}
use Rattle.mol_resolve_rules.specs.Locals.{Local, Locals, declare}
use Rattle.mol_spell_rules.specs.SpelledStatements.{SpelledPart, Spells, declaring_none, mapped, followed_by, then_next, in_block}
use Rattle.mol_spell_rules.specs.Writers.{Reference}
use Rattle.mol_table_rules.specs.Program.{Program}
use Rattle.mol_faults_laws.proofs.sameness_lemmas.ExpressionSteps.{AreGoodLocals}
use Rattle.mol_faults_laws.proofs.sameness_lemmas.Goodness.{AreGoodReferences, IsGoodReference, all-both}
use Rattle.mol_faults_laws.proofs.sameness_lemmas.Twins.{IsGoodType}

-- one is the other, its names are good, and the locals after it are
pub record IsSamePart (P : Program) {A : Type 0} (s t : SpelledPart A) : Type 0 where
  pub same : s ≡ t
  pub references : AreGoodReferences P s.references
  pub locals : AreGoodLocals P s.locals

-- from any good locals on
abbrev pub SpellAlike : Program → {A : Type 0} → Spells A → Spells A → Type 0
SpellAlike P f g = (locals : Locals Id) → AreGoodLocals P locals → IsSamePart P (f locals) (g locals)

module _ (P : Program) where
  abbrev Refs : List Reference → Type 0
  Refs = AreGoodReferences P

  pub none-same : {A : Type 0} (tree : A) (references : List Reference) → Refs references
      → SpellAlike P (declaring_none tree references) (declaring_none tree references)
  none-same tree references good locals is = record { same = refl; references = good; locals = is }

  pub mapped-same : {A B : Type 0} (make : A → B) (s t : SpelledPart A) → IsSamePart P s t → IsSamePart P (mapped make s) (mapped make t)
  mapped-same make s t same = record { same = ap (mapped make) same.same; references = same.references; locals = same.locals }

  pub next-same : {A B : Type 0} (s t : SpelledPart A) (f g : Spells B) → IsSamePart P s t → SpellAlike P f g
      → IsSamePart P (then_next s f) (then_next t g)
  next-same s t f g same next =
      let more = next s.locals same.locals in
      record {
        same = ap (followed_by s) more.same ∙ ap (λ u. then_next u g) same.same;
        references = all-both (IsGoodReference P) s.references (f s.locals).references same.references more.references;
        locals = more.locals;
      }

  pub block-same : {A : Type 0} (before : Locals Id) (s t : SpelledPart A) → IsSamePart P s t
      → IsSamePart P (in_block before s) (in_block before t)
  block-same before s t same = record { same = ap (in_block before) same.same; references = same.references; locals = same.locals }

  pub declare-good : (type : ViewType Id) (name : Name) (locals : Locals Id) → IsGoodType P type → AreGoodLocals P locals
      → AreGoodLocals P (declare (record { name = name; type = type }) locals)
  declare-good type name locals good all = by locals.declared all where
    by : (ls : List (Local Id)) → AllByRecursion (IsGoodType P) (map (λ (local : Local Id). local.type) ls)
        → AllByRecursion (IsGoodType P) (map (λ (local : Local Id). local.type) (ls ++ record { name = name; type = type } ∷ []))
    by [] all = (good, tt {0})
    by (l ∷ ls) all = (all.0, by ls all.1)

-- How many declarations of each method live.
use Rattle.std.specs.Prelude.{◌≡◌, ℕ, ◌+◌, ◌-◌, Bool, true, false, cond, List, [], ◌∷◌, Option, None, Some, unwrap_or, is_some, IsTrue}
use Rattle.std.specs.FinMap.{FinMap, get, insert, entries}
use Rattle.std.specs.declared.cmp.Ordering.{Ordering}
use Rattle.mol_base.specs.Order.{id_cmp}
use Rattle.mol_base.specs.declared.ident.Id.{Id}
use Rattle.mol_table_rules.specs.Life.{is_living_decl}
use Rattle.mol_table_rules.specs.Program.{Program, same_id, living_at}
use Rattle.mol_values_types.specs.declared.kind.MethodKind.{MethodKind}
use Rattle.mol_values_types.specs.declared.known.Known.{Known}
use Rattle.mol_values_types.specs.declared.known.Known.TheVariants as knowns

-- 1 where it is so
abbrev pub one_if : Bool → ℕ
one_if b = cond b 1 0

-- how many items pass
abbrev pub passing : {X : Type 0} → (X → Bool) → List X → ℕ
passing p [] = 0
passing p (x ∷ xs) = one_if (p x) + passing p xs

-- how many entries of a map pass a test
abbrev pub count : {K X : Type 0} {R : K → K → Ordering} → (K × X → Bool) → FinMap R X → ℕ
count test map = passing test (entries map)

abbrev pub Counts : Type 0
Counts = FinMap id_cmp ℕ

abbrev pub number_at : Counts → Id → ℕ
number_at counts method = unwrap_or (get counts method) 0

-- how many declarations of the method live
abbrev pub living_decls : Program → Id → ℕ
living_decls program method = count (is_living_decl program method) program.known

-- The counts have the number for each method that has living declarations, and a place for each known method.
pub record Counted (program : Program) (counts : Counts) : Type 0 where
  pub numbers : (method : Id) → number_at counts method ≡ living_decls program method
  pub places : (method : Id) (kind : MethodKind) → get program.known method ≡ Some (knowns.Method kind) → IsTrue (is_some (get counts method))

abbrev pub living_as : Option Known → Bool → Option Id
living_as (Some (knowns.Decl method)) true = Some method
living_as known living = None

-- the method of which an identity is a living declaration, if it is one
abbrev pub living_of : Program → Id → Option Id
living_of program id = living_as (get program.known id) (living_at program id)

-- whether this is the method, if there is one
abbrev pub is_of : Id → Option Id → Bool
is_of method None = false
is_of method (Some own) = same_id method own

-- one more and one less for a method, if there is one
abbrev pub raised : Counts → Option Id → Counts
raised counts None = counts
raised counts (Some method) = insert counts method (number_at counts method + 1)

abbrev pub lowered : Counts → Option Id → Counts
lowered counts None = counts
lowered counts (Some method) = insert counts method (number_at counts method - 1)

-- a place for a method
abbrev pub placed : Counts → Id → Counts
placed counts method = insert counts method (number_at counts method)

abbrev pub same_method : Option Id → Option Id → Bool
same_method None None = true
same_method (Some first) (Some second) = same_id first second
same_method first second = false

-- the counts once an identity that was a living declaration of the first method is one of the second
abbrev pub recounted : Counts → Option Id → Option Id → Counts
recounted counts was now = cond (same_method was now) counts (raised (lowered counts was) now)

-- the counts once an identity is added that is known as this, and lives or not
abbrev pub counted_by : Counts → Id → Option Known → Bool → Counts
counted_by counts id (Some (knowns.Method kind)) living = placed counts id
counted_by counts id (Some (knowns.Decl method)) true = raised counts (Some method)
counted_by counts id known living = counts

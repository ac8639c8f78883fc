-- The numbers that methods and their parameters are given, after those of classes and members.
use Rattle.std.specs.Prelude.{◌≡◌, ℕ, suc, ◌+◌, ◌<◌, ◌^◌, Bool, List, map, length, take, sum_by, if◌then◌else◌}
use Rattle.jav_tree.specs.declared.unit.Member.{Member}
use Rattle.jav_tree.specs.declared.unit.Member.TheVariants as member
use Rattle.jav_names.specs.UnitViews.{MemberKey}
use Rattle.jav_names.specs.Views.{View}
use Rattle.jav_scope.specs.Entries.{view_in}
use Rattle.jav_scope.specs.declared.source.SourceUnit.{SourceUnit}
use Rattle.mol_resolve_rules.specs.Numbering.{below, numbered_at_key, same_key}
use Rattle.mol_resolve_members.specs.numbers.Members.{keys_of, place_of}
use Rattle.mol_resolve_members.specs.numbers.Tops.{top_key, tops_of}

-- how many numbers are given where a member stands: to a method and its parameters, at the topmost declaration
abbrev pub given_at : View ℕ MemberKey → MemberKey → ℕ
given_at view key = length (numbered_at_key view key)

abbrev pub given : Member → Bool → ℕ
given (member.Field field) is_top = 0
given (member.Method method) is_top = if is_top then suc (length method.params) else 0
given (member.Ctor constructor) is_top = if is_top then suc (length constructor.params) else 0

-- the number that comes next, after so many members
abbrev pub first_after : List SourceUnit → ℕ → ℕ
first_after sources place =
    suc (length sources + length (keys_of sources) + sum_by (given_at (view_in sources)) (take place (keys_of sources)))

-- after none, and so on, and after all
abbrev pub firsts_of : List SourceUnit → List ℕ
firsts_of sources = map (first_after sources) (below (suc (length (keys_of sources))))

-- The number of the method of a declaration, or of the parameter that comes so many after it; the one after all, where the topmost
-- declaration has another above it.
abbrev pub method_number : List SourceUnit → MemberKey → ℕ → ℕ
method_number sources key more =
    if same_key (top_key (view_in sources) (top_key (view_in sources) key)) (top_key (view_in sources) key)
    then first_after sources (place_of sources (top_key (view_in sources) key)) + more
    else first_after sources (length (keys_of sources))

-- Topmost declarations, and the numbers that come next at each member. They fit 32 bits.
pub record AreNumbered (sources : List SourceUnit) (classes : ℕ) (tops firsts : List ℕ) : Type 0 where
  pub counted : classes ≡ length sources
  pub tops_are : tops ≡ tops_of sources
  pub firsts_are : firsts ≡ firsts_of sources
  pub fits : first_after sources (length (keys_of sources)) < 2 ^ 32

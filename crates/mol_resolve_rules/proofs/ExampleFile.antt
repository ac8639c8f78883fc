-- One file, from its tree to its faults and to what its cells are to hold: `int sum(int n, int n) { return x; }` in the class `k.A`.
use Rattle.std.proofs.Common.{◌≡◌, ℕ, false, [], ◌∷◌, Some, None, codes, refl, sym, ap, ◌∙◌}
use Rattle.mol_values_types.specs.declared.cell.Slot.TheVariants as slots
use Rattle.mol_values_types.specs.declared.itype.IType.TheFolds.{fold-roll-IType}
use Rattle.mol_values_types.specs.declared.itype.IType.TheOpen.{IType-F}
use Rattle.mol_values_types.specs.declared.itype.IType.TheVariants as types
use Rattle.mol_values_types.specs.declared.kind.MethodKind.TheVariants.{Instance}
use Rattle.mol_values_types.specs.declared.known.Known.TheVariants as knowns
use Rattle.mol_values_types.specs.declared.value.Value.TheVariants as values
use Rattle.jav_tree.specs.Blocks.{block_of}
use Rattle.jav_tree.specs.Expressions.{expr_at}
use Rattle.jav_tree.specs.declared.expr.Expr.{Expr}
use Rattle.jav_tree.specs.declared.expr.ExprNode.TheVariants as node
use Rattle.jav_tree.specs.declared.stmt.Else.TheOpen.{StmtNode-F}
use Rattle.jav_tree.specs.declared.stmt.Stmt.{Stmt}
use Rattle.jav_tree.specs.declared.stmt.StmtNode.TheVariants as stmt_node
use Rattle.jav_tree.specs.declared.unit.Member.{Member}
use Rattle.jav_tree.specs.declared.unit.Member.TheVariants as member
use Rattle.jav_tree.specs.declared.unit.Unit.{Unit as Source}
use Rattle.jav_names.specs.DottedNames.{Name}
use Rattle.jav_names.specs.UnitViews.{MemberKey}
use Rattle.jav_names.proofs.ExampleFiles.{int, param, file}
use Rattle.mol_resolve_rules.specs.Expected.{filler_step, filler_of, known_of, value_of}
use Rattle.mol_resolve_rules.specs.FaultKinds.{redeclared, unknown_name}
use Rattle.mol_resolve_rules.specs.Files.{Files, placed}
use Rattle.mol_resolve_rules.specs.Numbering.{numbered_class, numbered_member, numbered_method, numbered_param, in_order}
use Rattle.mol_resolve_rules.specs.ReadFiles.{member_reader, tree_faults}
use Rattle.mol_resolve_rules.specs.Readers.{Reader}
use Rattle.mol_resolve_rules.proofs.ExampleShop.{base, file_at}
use Rattle.mol_resolve_rules.proofs.ReadEquations.{reads-Name, tree-Prim, line_at, reads-Return, reads-block}

-- ---- the file

abbrev x : Expr
x = expr_at 48 (node.Name (codes "x"))

abbrev return_x : Stmt
return_x = record { notes = []; at = 41; node = stmt_node.Return (Some x) }

abbrev sum : Member
sum = member.Method (record {
  front = [];
  at = 20;
  words = [];
  is_static = false;
  result = int;
  name = codes "sum";
  params = param int "n" ∷ param int "n" ∷ [];
  block = Some (block_of (return_x ∷ []) []);
})

abbrev unit : Source
unit = file "k" [] "A" None (sum ∷ [])

abbrev files : Files
files = file_at "k/A.java" unit ∷ []

abbrev key : MemberKey
key = record { unit = 0; member = 0 }

-- ---- its numbers

numbers : in_order files ≡ numbered_class 0 ∷ numbered_member key ∷ numbered_method key ∷ numbered_param key 0 ∷ numbered_param key 1 ∷ []
numbers = refl

-- ---- its faults: two parameters have one name, and nothing is named `x`

abbrev in_sum : Reader ℕ MemberKey
in_sum = member_reader files (placed files (0, file_at "k/A.java" unit) (0, sum))

faults : tree_faults files (0, file_at "k/A.java" unit)
    ≡ record { kind = redeclared; at = 20 } ∷ record { kind = unknown_name; at = 48 } ∷ []
faults = rw (
  tree-Prim in_sum (codes "int"),
  reads-block in_sum (return_x ∷ []) (line_at in_sum 41 (StmtNode-F.Return (Some x)) ∷ []) (λ i. reads-Return in_sum 41 (Some x) i ∷ []),
  reads-Name in_sum 48 (codes "x"),
) refl

-- ---- what it says

known_class : known_of files (numbered_class 0) ≡ Some knowns.Class
known_class = refl

known_declaration : known_of files (numbered_member key) ≡ Some (knowns.Decl (base 3))
known_declaration = refl

known_method : known_of files (numbered_method key) ≡ Some (knowns.Method Instance)
known_method = refl

known_parameter : known_of files (numbered_param key 1) ≡ Some (knowns.Param (base 3))
known_parameter = refl

name_of_class : value_of files (numbered_class 0) slots.Name ≡ Some (values.Name (codes "A"))
name_of_class = refl

owner_of_declaration : value_of files (numbered_member key) slots.Owner ≡ Some (values.Owner (base 1))
owner_of_declaration = refl

name_of_method : value_of files (numbered_method key) slots.Name ≡ Some (values.Name (codes "sum"))
name_of_method = refl

filler-Int : filler_of types.Int ≡ codes "0"
filler-Int = ap filler_of (sym types.rolls-Int) ∙ fold-roll-IType Name filler_step IType-F.Int

params_of_method : value_of files (numbered_method key) slots.Params ≡ Some (values.Params (
    record { id = base 4; name = codes "n"; ty = types.Int; filler = codes "0" }
    ∷ record { id = base 5; name = codes "n"; ty = types.Int; filler = codes "0" } ∷ []))
params_of_method = rw (tree-Prim in_sum (codes "int"), filler-Int) refl

-- a body in which a name has no meaning has no value
no_body : value_of files (numbered_member key) slots.Body ≡ None
no_body = rw (
  reads-block in_sum (return_x ∷ []) (line_at in_sum 41 (StmtNode-F.Return (Some x)) ∷ []) (λ i. reads-Return in_sum 41 (Some x) i ∷ []),
  reads-Name in_sum 48 (codes "x"),
) refl

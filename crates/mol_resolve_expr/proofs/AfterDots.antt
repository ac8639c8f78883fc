-- What stands after a dot, by what the names before it spell.
use Rattle.std.proofs.Common.{◌≡◌, ℕ, List, [], ◌∷◌, map, length, Option, Some, sym, ap, ◌∙◌, subst}
use Rattle.std.proofs.lemmas.List.{length-map}
use Rattle.jav_tree.specs.declared.expr.Expr.{Expr}
use Rattle.jav_tree.specs.declared.expr.ExprNode.TheOpen.{ExprNode-F}
use Rattle.jav_tree.specs.declared.expr.ExprNode.TheVariants as node
use Rattle.jav_names.specs.DottedNames.{Name}
use Rattle.jav_names.specs.UnitViews.{MemberKey}
use Rattle.mol_resolve_expr.proofs.ChainPaths.{path_before, chain_before, path_here}
use Rattle.mol_resolve_expr.proofs.Nodes.{names-Dot}
use Rattle.mol_resolve_expr.specs.Parts.{all_of, before_of, dot_of, node_of}
use Rattle.mol_resolve_expr.specs.Stands.{stand_of}
use Rattle.mol_resolve_expr.specs.declared.stand.Stand.TheVariants as stand
use Rattle.mol_resolve_readings.specs.reads.Chains.{before_last, chain_of, path_in, view_path}
use Rattle.mol_resolve_readings.specs.reads.Reads.{Reads, names_of}
use Rattle.mol_resolve_readings.specs.declared.reads.chain.Chain.{Chain}
use Rattle.mol_resolve_readings.specs.declared.reads.chain.ClassPath.{ClassPath as Path}
use Rattle.mol_resolve_rules.specs.Locals.{Locals}
use Rattle.mol_resolve_rules.specs.Outcomes.{TreeFault}
use Rattle.mol_resolve_rules.specs.Readers.{Reader}
use Rattle.mol_resolve_rules.specs.ReadTrees.{Meant, Mode, followers, longer, dot_meant, call_meant, reading}

module _ (reader : Reader ℕ MemberKey) (locals : Locals ℕ) (e on : Expr) (name : Name) (mode : Mode) (whole : Chain)
    (is_dot : e.node ≡ node.Dot on name) (whole_is : whole ≡ chain_of reader locals (names_of reader e) (followers mode)) where
  whole_chain : whole ≡ chain_of reader locals (longer name (names_of reader on)) (followers mode)
  whole_chain = whole_is ∙ ap (λ names. chain_of reader locals names (followers mode)) (names-Dot reader e on name is_dot)

  -- what stands before the dot stands so
  pub stands_before : stand.Before (before_last whole) ≡ stand_of reader locals (names_of reader on) (Some (name ∷ followers mode))
  stands_before = ap (λ chain. stand.Before chain) (chain_before reader locals (names_of reader on) name (followers mode) whole whole_chain)

  pub dot_by : (path : Path) (value : Option (Meant ℕ)) (before after : Option TreeFault) → path ≡ path_in (before_last whole)
      → Reads (dot_meant reader e.at name mode (before_of reader locals on (name ∷ followers mode)) (view_path path)) value before after
      → Reads (dot_of reader locals on name mode e.at) value before after
  dot_by path value before after is =
      subst (λ path. Reads (dot_meant reader e.at name mode (before_of reader locals on (name ∷ followers mode)) path) value before after)
      (sym (path_before reader locals (names_of reader on) name (followers mode) whole path whole_chain is))

module _ (reader : Reader ℕ MemberKey) (locals : Locals ℕ) (on : Expr) (name : Name) (args : List Expr) (at : ℕ) (whole : Chain)
    (whole_is : whole ≡ chain_of reader locals (names_of reader on) []) where
  pub call_by : (path : Path) (value : Option (Meant ℕ)) (before after : Option TreeFault) → path ≡ path_in whole
      → Reads (call_meant reader at name (length args) (before_of reader locals on []) (all_of reader locals args) (view_path path))
      value before after
      → Reads (node_of reader locals (ExprNode-F.Call (Some (reading reader on)) name (map (reading reader) args)) at) value before after
  call_by path value before after is read =
      subst (λ path. Reads (call_meant reader at name (length (map (reading reader) args)) (before_of reader locals on [])
      (all_of reader locals args) path) value before after)
      (sym (path_here reader locals (names_of reader on) [] whole path whole_is is))
      (subst (λ arity. Reads (call_meant reader at name arity (before_of reader locals on []) (all_of reader locals args) (view_path path))
      value before after) (sym (length-map args (reading reader))) read)

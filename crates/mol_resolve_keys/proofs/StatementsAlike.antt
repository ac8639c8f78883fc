-- Readers that are alike read the parts of statements alike: expressions, locals, `super(..)`, and headers.
use Rattle.std.proofs.Common.{◌≡◌, ℕ, Bool, true, false, List, [], ◌∷◌, ◌++◌, map, Option, Some, None, option_map, if◌then◌else◌, refl, sym, ◌∙◌, ap, subst}
use Rattle.std.specs.List.{list_any}
use Rattle.std.specs.Str.{bytes_eq}
use Rattle.std.proofs.lemmas.List.{map-append, length-map}
use Rattle.mol_base.specs.declared.ident.Id.{Id}
use Rattle.jav_tree.specs.declared.expr.Expr.{Expr}
use Rattle.jav_tree.specs.declared.stmt.Declarator.{Declarator}
use Rattle.jav_tree.specs.declared.stmt.ForStart.{ForStart}
use Rattle.jav_tree.specs.declared.stmt.ForStart.TheVariants as for_start
use Rattle.jav_tree.specs.declared.stmt.Let.{Let}
use Rattle.jav_names.specs.DottedNames.{Name}
use Rattle.jav_names.specs.LookUps.{super_constructor}
use Rattle.jav_names.specs.Members.{Constructor, declared_constructor, default_constructor}
use Rattle.jav_names.specs.Views.{ViewType, Found, found, outside, not_found}
use Rattle.jav_names_laws.specs.Keys.{Keys, found_as, type_as, declaration_as, constructor_as}
use Rattle.mol_resolve_keys.specs.Alike.{local_as, locals_as, ReadersAlike}
use Rattle.mol_resolve_rules.specs.FaultKinds.{redeclared, unknown_member}
use Rattle.mol_resolve_rules.specs.Locals.{Locals}
use Rattle.mol_resolve_rules.specs.Outcomes.{Outcome, fine, put_first}
use Rattle.mol_resolve_rules.specs.Readers.{Reader}
use Rattle.mol_resolve_rules.specs.ReadStatements.{ReadOn, ReadsTo, declaring_none, mapped_on, followed_by, then_next, each, in_block, redeclared_faults, declaring, read_exprs, read_maybe, read_declarator, read_let, super_read, super_if, read_start, read_header, read_each}
use Rattle.mol_resolve_rules.specs.ReadTrees.{with_params}
use Rattle.mol_resolve_rules.specs.ReadTypes.{ReadType, read_type, seen_type}
use Rattle.mol_values_types.specs.Renamed.{rename_expr, rename_declarator, rename_let, rename_start, rename_node, rename_block}
use Rattle.mol_values_types.specs.declared.iblock.IBlock.{IBlock}
use Rattle.mol_values_types.specs.declared.iblock.IForStart.TheVariants as starts
use Rattle.mol_values_types.specs.declared.iblock.ILet.{ILet}
use Rattle.mol_values_types.specs.declared.iblock.IStmtNode.TheVariants as nodes
use Rattle.mol_values_types.specs.declared.iexpr.IExpr.{IExpr}
use Rattle.mol_resolve_keys.proofs.ExpressionsAlike.{expression-alike}
use Rattle.mol_resolve_keys.proofs.FoundStands.{OfFound, ConstructorStands, super_constructor-stands}
use Rattle.mol_resolve_keys.proofs.MembersAlike.{params-alike}
use Rattle.mol_resolve_keys.proofs.NamesAlike.{names_in_scope-alike, param_names-alike}
use Rattle.mol_resolve_keys.proofs.OutcomesAlike.{SameOption, OutcomesAlike, Made, Both, alike-fine, alike-refused, alike-with_faults, alike-mapped, alike-given, alike-both}
use Rattle.mol_resolve_keys.proofs.RenamedStatements as renamed
use Rattle.mol_resolve_keys.proofs.TypesAlike.{TypesAlike, seen-alike, type-alike}

-- ---- reading on

-- The outcomes are alike, and the locals after it are the same but for keys.
pub record OnAlike {C D A B : Type 0} (key : C → D) (R : A → B → Type 0) (on : ReadOn C A) (other : ReadOn D B) : Type 0 where
  pub outcome : OutcomesAlike R on.outcome other.outcome
  pub locals : locals_as key on.locals ≡ other.locals

-- whatever locals it is read with
abbrev pub ToAlike : {C D A B : Type 0} → (C → D) → (A → B → Type 0) → ReadsTo C A → ReadsTo D B → Type 0
ToAlike {C} key R part other = (locals : Locals C) → OnAlike key R (part locals) (other (locals_as key locals))

module _ {C D A B : Type 0} (key : C → D) (R : A → B → Type 0) where
  pub on-none : (locals : Locals C) (o : Outcome A) (r : Outcome B) → OutcomesAlike R o r
      → OnAlike key R (declaring_none locals o) (declaring_none (locals_as key locals) r)
  on-none locals o r alike = record { outcome = alike; locals = refl }

  pub on-block : (before : Locals C) (on : ReadOn C A) (other : ReadOn D B) → OnAlike key R on other
      → OnAlike key R (in_block before on) (in_block (locals_as key before) other)
  on-block before on other alike = record {
    outcome = alike.outcome;
    locals = λ i. record { declared = (alike.locals i).declared; in_scope = before.in_scope };
  }

module _ {C D A B X Y : Type 0} (key : C → D) (R : A → B → Type 0) (S : X → Y → Type 0) where
  pub on-mapped : (make : A → X) (made : B → Y) (on : ReadOn C A) (other : ReadOn D B) → OnAlike key R on other
      → ((a : A) (b : B) → R a b → S (make a) (made b)) → OnAlike key S (mapped_on make on) (mapped_on made other)
  on-mapped make made on other alike each = record {
    outcome = alike-mapped R S make made on.outcome other.outcome alike.outcome each;
    locals = alike.locals;
  }

  pub on-followed : (on : ReadOn C A) (other : ReadOn D B) (next : ReadOn C X) (also : ReadOn D Y)
      → OutcomesAlike R on.outcome other.outcome
      → OnAlike key S next also → OnAlike key (Both R S) (followed_by on next) (followed_by other also)
  on-followed on other next also alike more = record {
    outcome = alike-both R S on.outcome other.outcome next.outcome also.outcome alike more.outcome;
    locals = more.locals;
  }

  pub on-then : (on : ReadOn C A) (other : ReadOn D B) (next : ReadsTo C X) (also : ReadsTo D Y) → OnAlike key R on other
      → ToAlike key S next also → OnAlike key (Both R S) (then_next on next) (then_next other also)
  on-then on other next also alike more = on-followed on other (next on.locals) (also other.locals) alike.outcome
      (subst (λ (l : Locals D). OnAlike key S (next on.locals) (also l)) alike.locals (more on.locals))

module _ {C D X A B : Type 0} (key : C → D) (name : B → A) (make : X → ReadsTo C A) (made : X → ReadsTo D B)
    (alike : (x : X) → ToAlike key (Made name) (make x) (made x)) where
  on-each : (xs : List X) → ToAlike key (Made (map name)) (each (map make xs)) (each (map made xs))
  on-each [] locals = on-none key (Made (map name)) locals (fine []) (fine []) (alike-fine (Made (map name)) [] [] refl)
  on-each (x ∷ xs) locals = on-mapped key (Both (Made name) (Made (map name))) (Made (map name)) put_first put_first _ _
      (on-then key (Made name) (Made (map name)) (make x locals) (made x (locals_as key locals)) (each (map make xs)) (each (map made xs))
      (alike x locals) (on-each xs)) (λ pair other same. λ i. same.0 i ∷ same.1 i)

module _ {C M D N : Type 0} (keys : Keys C M D N) (name : Id → Id) (first : Reader C M) (second : Reader D N)
    (alike : ReadersAlike keys name first second) where
  abbrev key : C → D
  key = keys.class

  abbrev others : Locals C → Locals D
  others = locals_as keys.class

  abbrev Expressions : IExpr → IExpr → Type 0
  Expressions = Made (rename_expr name)

  abbrev IsTypeAlike : ReadType C → ReadType D → Type 0
  IsTypeAlike = TypesAlike keys name first second alike

  -- ---- expressions in statements

  pub maybe-alike : (locals : Locals C) (e : Option Expr)
      → OutcomesAlike (Made (option_map (rename_expr name))) (read_maybe first locals e) (read_maybe second (others locals) e)
  maybe-alike locals None = alike-fine (Made (option_map (rename_expr name))) None None refl
  maybe-alike locals (Some e) = alike-mapped Expressions (Made (option_map (rename_expr name))) _ _ _ _
      (expression-alike keys name first second alike locals e) (λ a b same. ap (λ (e : IExpr). Some e) same)

  pub exprs-alike : (locals : Locals C) (es : List Expr)
      → OutcomesAlike (Made (map (rename_expr name))) (read_exprs first locals es) (read_exprs second (others locals) es)
  exprs-alike locals [] = alike-fine (Made (map (rename_expr name))) [] [] refl
  exprs-alike locals (e ∷ es) = alike-mapped (Both Expressions (Made (map (rename_expr name)))) (Made (map (rename_expr name)))
      put_first put_first _ _
      (alike-both Expressions (Made (map (rename_expr name))) _ _ (read_exprs first locals es) (read_exprs second (others locals) es)
      (expression-alike keys name first second alike locals e) (exprs-alike locals es))
      (λ pair other same. λ i. same.0 i ∷ same.1 i)

  -- ---- declarations of locals

  redeclared-alike : (at : ℕ) (text : Name) (locals : Locals C)
      → redeclared_faults first at text locals ≡ redeclared_faults second at text (others locals)
  redeclared-alike at text locals =
      λ i. if list_any (bytes_eq text) (names_in_scope-alike keys.class locals i ++ param_names-alike keys name first second alike i)
      then record { kind = redeclared; at = at } ∷ [] else []

  declared-alike : (type : ViewType C) (text : Name) (locals : Locals C)
      → others (declaring first type text locals) ≡ declaring second (type_as keys.class type) text (others locals)
  declared-alike type text locals = λ i. record {
    declared = map-append (local_as keys.class) locals.declared (record { name = text; type = type } ∷ []) i;
    in_scope = locals.in_scope ++ sym (length-map locals.declared (local_as keys.class)) i ∷ [];
  }

  declarator-alike : (at : ℕ) (type : ViewType C) (d : Declarator)
      → ToAlike keys.class (Made (rename_declarator name)) (read_declarator first at type d)
      (read_declarator second at (type_as keys.class type) d)
  declarator-alike at type d locals = record {
    outcome = alike-with_faults (Made (rename_declarator name)) (redeclared_faults first at d.name locals)
        (redeclared_faults second at d.name (others locals)) _ _ (redeclared-alike at d.name locals)
        (alike-mapped (Made (option_map (rename_expr name))) (Made (rename_declarator name)) _ _ _ _
        (subst (λ (l : Locals D). OutcomesAlike (Made (option_map (rename_expr name)))
        (read_maybe first (declaring first type d.name locals) d.init) (read_maybe second l d.init))
        (declared-alike type d.name locals) (maybe-alike (declaring first type d.name locals) d.init))
        (λ init other same. λ i. record { name = d.name; init = same i }));
    locals = declared-alike type d.name locals;
  }

  declarators-alike : (at : ℕ) (type : ViewType C) (seen : ViewType D) → type_as keys.class type ≡ seen → (ds : List Declarator)
      → ToAlike keys.class (Made (map (rename_declarator name))) (each (map (read_declarator first at type) ds))
      (each (map (read_declarator second at seen) ds))
  declarators-alike at type seen same ds =
      subst (λ (t : ViewType D). ToAlike keys.class (Made (map (rename_declarator name))) (each (map (read_declarator first at type) ds))
      (each (map (read_declarator second at t) ds))) same
      (on-each keys.class (rename_declarator name) (read_declarator first at type) (read_declarator second at (type_as keys.class type))
      (declarator-alike at type) ds)

  pub let-alike : (at : ℕ) (declared : Let)
      → ToAlike keys.class (Made (rename_let name)) (read_let first at declared) (read_let second at declared)
  let-alike at declared locals =
      on-mapped keys.class (Both IsTypeAlike (Made (map (rename_declarator name)))) (Made (rename_let name)) _ _ _ _
      (on-followed keys.class IsTypeAlike (Made (map (rename_declarator name)))
      (declaring_none locals (read_type first at declared.ty)) (declaring_none (others locals) (read_type second at declared.ty)) _ _
      (type-alike keys name first second alike at declared.ty)
      (declarators-alike at (seen_type first declared.ty) (seen_type second declared.ty)
      (seen-alike keys name first second alike declared.ty) declared.names locals))
      (λ pair other same. λ i. record { is_final = declared.is_final; ty = same.0.tree i; names = same.1 i })

  -- ---- `super(..)`

  super_read-alike : (at : ℕ) (values trees : Option (List IExpr)) → SameOption (Made (map (rename_expr name))) values trees
      → (f : Found (Constructor C M)) → OfFound (ConstructorStands first.view alike.ordered) f
      → OutcomesAlike (Made (rename_node name)) (super_read first at values f)
      (super_read second at trees (found_as (constructor_as keys) f))
  super_read-alike at values trees same (found (declared_constructor declared)) stands =
      alike-given (Made (map (rename_expr name))) (Made (rename_node name))
      (λ args. fine (nodes.Super (first.ids.method_id declared) (with_params (first.ids.param_ids declared) args)))
      (λ args. fine (nodes.Super (second.ids.method_id (declaration_as keys declared))
      (with_params (second.ids.param_ids (declaration_as keys declared)) args))) values trees same (λ args values are.
      alike-fine (Made (rename_node name)) _ _
      ((λ i. nodes.Super (alike.ids.methods declared stands i) (params-alike name (first.ids.param_ids declared)
      (second.ids.param_ids (declaration_as keys declared)) args values (alike.ids.params declared stands) are i))
      ∙ sym (renamed.renamed-Super name (second.ids.method_id (declaration_as keys declared))
      (with_params (second.ids.param_ids (declaration_as keys declared)) values))))
  super_read-alike at values trees same (found (default_constructor class)) stands = alike-fine (Made (rename_node name)) _ _
      (ap (λ (id : Id). nodes.SuperDefault id) (alike.ids.classes class stands)
      ∙ sym (renamed.renamed-SuperDefault name (second.ids.class_id (keys.class class))))
  super_read-alike at values trees same outside stands =
      alike-given (Made (map (rename_expr name))) (Made (rename_node name)) (λ args. fine (nodes.SuperOutside args))
      (λ args. fine (nodes.SuperOutside args)) values trees same (λ args values are.
      alike-fine (Made (rename_node name)) _ _
      (ap (λ (es : List IExpr). nodes.SuperOutside es) are ∙ sym (renamed.renamed-SuperOutside name values)))
  super_read-alike at values trees same not_found stands = alike-refused (Made (rename_node name)) unknown_member at

  super_if-by : (b : Bool) (at : ℕ) (values trees : Option (List IExpr)) (f : Found (Constructor C M)) (g : Found (Constructor D N))
      → OutcomesAlike (Made (rename_node name)) (super_read first at values f) (super_read second at trees g)
      → OutcomesAlike (Made (rename_node name)) (super_if first b at values f) (super_if second b at trees g)
  super_if-by true at values trees f g same = same
  super_if-by false at values trees f g same = alike-refused (Made (rename_node name)) unknown_member at

  pub super-alike : (at : ℕ) (values trees : Option (List IExpr)) → SameOption (Made (map (rename_expr name))) values trees → (arity : ℕ)
      → OutcomesAlike (Made (rename_node name))
      (super_if first first.in_constructor at values (super_constructor first.view first.class arity))
      (super_if second second.in_constructor at trees (super_constructor second.view second.class arity))
  super-alike at values trees same arity =
      subst (λ b. OutcomesAlike (Made (rename_node name))
      (super_if first first.in_constructor at values (super_constructor first.view first.class arity))
      (super_if second b at trees (super_constructor second.view second.class arity))) alike.in_constructor
      (super_if-by first.in_constructor at values trees _ _
      (subst (λ f. OutcomesAlike (Made (rename_node name)) (super_read first at values (super_constructor first.view first.class arity))
      (super_read second at trees f))
      (alike.looks.super_constructors first.class arity ∙ ap (λ (c : D). super_constructor second.view c arity) alike.class)
      (super_read-alike at values trees same (super_constructor first.view first.class arity)
      (super_constructor-stands first.view alike.ordered first.class arity))))

  -- ---- parts of statements

  pub start-alike : (at : ℕ) (start : ForStart)
      → ToAlike keys.class (Made (rename_start name)) (read_start first at start) (read_start second at start)
  start-alike at for_start.None locals =
      on-none keys.class (Made (rename_start name)) locals _ _ (alike-fine (Made (rename_start name)) starts.None starts.None refl)
  start-alike at (for_start.Let declared) locals = on-mapped keys.class (Made (rename_let name)) (Made (rename_start name)) _ _ _ _
      (let-alike at declared locals) (λ a b same. ap (λ (l : ILet). starts.Let l) same)
  start-alike at (for_start.Do es) locals = on-none keys.class (Made (rename_start name)) locals _ _
      (alike-mapped (Made (map (rename_expr name))) (Made (rename_start name)) _ _ _ _ (exprs-alike locals es)
      (λ a b same. ap (λ (es : List IExpr). starts.Do es) same))

  pub header-alike : (test : Option Expr) (steps : List Expr) (locals : Locals C)
      → OutcomesAlike (Both (Made (option_map (rename_expr name))) (Made (map (rename_expr name)))) (read_header first locals test steps)
      (read_header second (others locals) test steps)
  header-alike test steps locals = alike-both (Made (option_map (rename_expr name))) (Made (map (rename_expr name))) _ _ _ _
      (maybe-alike locals test) (exprs-alike locals steps)

  pub each-alike : (at : ℕ) (type : ViewType C) (text : Name) (block : ReadsTo C IBlock) (other : ReadsTo D IBlock)
      → ToAlike keys.class (Made (rename_block name)) block other
      → ToAlike keys.class (Made (rename_block name)) (read_each first at type text block)
      (read_each second at (type_as keys.class type) text other)
  each-alike at type text block other same locals =
      let inside : OnAlike keys.class (Made (rename_block name)) (block (declaring first type text locals))
      (other (declaring second (type_as keys.class type) text (others locals)))
      = subst (λ (l : Locals D). OnAlike keys.class (Made (rename_block name)) (block (declaring first type text locals)) (other l))
      (declared-alike type text locals) (same (declaring first type text locals)) in
      record {
        outcome = alike-with_faults (Made (rename_block name)) (redeclared_faults first at text locals)
            (redeclared_faults second at text (others locals)) _ _ (redeclared-alike at text locals) inside.outcome;
        locals = λ i. record { declared = (inside.locals i).declared; in_scope = locals.in_scope };
      }

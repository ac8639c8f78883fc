-- Where the trees of files without a fault are read, what is found for a call takes the parameters that its method has in the program
-- of the files, and a class that is created by default has no constructor in it.
use Rattle.std.proofs.Common.{◌≡◌, ℕ, true, List, map, length, None, option_map, Contains, refl, sym, ◌∙◌, ap, subst}
use Rattle.std.specs.List.{All}
use Rattle.std.proofs.lemmas.List.{length-map}
use Rattle.std.proofs.lemmas.List.FromFn.{length-map-range_with_len}
use Rattle.jav_names.specs.Standing.{IsConstructorIn}
use Rattle.jav_names.specs.Members.{default_constructor}
use Rattle.jav_names.specs.UnitViews.{MemberKey}
use Rattle.jav_names.specs.Views.{ViewDeclaration}
use Rattle.mol_base.specs.declared.ident.Id.{Id}
use Rattle.mol_resolve_rules.proofs.FilesStand.{StandsAt, some-same, stands-found, declaration-made, method-in_order}
use Rattle.mol_resolve_rules.specs.Expected.{kind_of}
use Rattle.mol_resolve_rules.specs.Files.{Files, HasFile, files_view, PlacedMember}
use Rattle.mol_resolve_rules.specs.Numbering.{numbered_class, numbered_method, numbered_param, topmost, below, in_order, id_at, ids_of}
use Rattle.mol_resolve_rules.specs.ReadAs.{HasNoFault}
use Rattle.mol_resolve_rules.specs.ReadFiles.{member_reader}
use Rattle.mol_resolve_rules.specs.ReadTrees.{with_params}
use Rattle.mol_table_rules.proofs.TidiedExpressions.{ids as ids_listed}
use Rattle.mol_table_rules.specs.Forms.{differ}
use Rattle.mol_table_rules.specs.Program.{Program, params_in, params_at}
use Rattle.mol_table_rules.specs.Tidy.{arguments_for, bare_constructor}
use Rattle.mol_values_types.specs.declared.cell.Slot.TheVariants as slots
use Rattle.mol_values_types.specs.declared.iexpr.IExpr.{IExpr}
use Rattle.mol_values_types.specs.declared.known.Known.TheVariants as knowns
use Rattle.mol_values_types.specs.declared.param.Param.{Param}
use Rattle.mol_resolve_laws.proofs.ArgumentsTidied.{found-in-order}
use Rattle.mol_resolve_laws.proofs.BareClasses.{default-bare}
use Rattle.mol_resolve_laws.proofs.EntityItems.{has-params}
use Rattle.mol_resolve_laws.proofs.Filled.{IsFilled}
use Rattle.mol_resolve_laws.proofs.MethodCellsRight.{ids-differ}
use Rattle.mol_resolve_laws.proofs.MethodItems.{IsInMethod, method-item}
use Rattle.mol_resolve_laws.proofs.MethodsAgree.{topmost-is}
use Rattle.mol_resolve_laws.proofs.NamesTidied.{ReadsTidily}
use Rattle.mol_resolve_laws.proofs.ReaderRight.{has-file, member-right, top-itself}
use Rattle.mol_resolve_laws.proofs.Right.{ReadsRightly}
use Rattle.mol_resolve_laws.proofs.TreesTidied.{AreFound}
use Rattle.mol_resolve_laws.specs.Laws.{IsTree}

module _ (files : Files) (no_fault : HasNoFault files) (program : Program) (filled : IsFilled files program)
    (trees : All IsTree files) where
  abbrev Declaration : Type 0
  Declaration = ViewDeclaration ℕ MemberKey

  -- ---- calls

  module _ (declared : Declaration) (stands : Contains (files_view files).declarations declared) where
    abbrev top : Declaration
    top = topmost (files_view files) declared

    abbrev of_method : Id
    of_method = (ids_of files).method_id declared

    top-stands : Contains (files_view files).declarations top
    top-stands = (topmost-is files no_fault declared stands).stands

    item-stands : Contains (in_order files) (numbered_method top.key)
    item-stands = method-in_order files top top-stands (top-itself files no_fault program filled declared stands)

    item : IsInMethod files top.key (numbered_method top.key)
    item = method-item files top.key item-stands

    arity-is : item.declared.arity ≡ declared.arity
    arity-is = ap (λ (d : Declaration). d.arity) (some-same (sym item.found ∙ stands-found files top top-stands))
        ∙ (topmost-is files no_fault declared stands).takes

    standing : StandsAt files top.key
    standing = (declaration-made files top top-stands).at

    abbrev listed : List Param
    listed = (has-params files no_fault top.key item item-stands).params

    -- the method has these parameters
    present-is : params_at program of_method ≡ listed
    present-is = ap params_in (filled.cells (numbered_method top.key) item-stands (knowns.Method (kind_of item.declared.kind))
        (ap (option_map (λ (d : Declaration). knowns.Method (kind_of d.kind))) item.found) slots.Params
        ∙ (has-params files no_fault top.key item item-stands).said)

    ids-are : ids_listed listed ≡ (ids_of files).param_ids declared
    ids-are = (has-params files no_fault top.key item item-stands).ids_are
        ∙ ap (λ arity. map (λ place. id_at files (numbered_param top.key place)) (below arity)) arity-is

    listed-differ : differ (ids_listed listed) ≡ true
    listed-differ = ap differ (has-params files no_fault top.key item item-stands).ids_are
        ∙ ids-differ files no_fault program filled trees top.key standing item

    listed-length : length listed ≡ declared.arity
    listed-length = sym (length-map listed (λ (param : Param). param.id)) ∙ ap (λ (ids : List Id). length ids) ids-are
        ∙ length-map-range_with_len (λ (place : ℕ). id_at files (numbered_param top.key place)) 0 declared.arity

    call-found : (es : List IExpr) → length es ≡ declared.arity
        → AreFound (params_at program) (bare_constructor program) of_method (with_params ((ids_of files).param_ids declared) es)
    call-found es as_many =
        subst (λ (ids : List Id). arguments_for (params_at program of_method) (with_params ids es) ≡ with_params ids es) ids-are
        (subst (λ (params : List Param). arguments_for params (with_params (ids_listed listed) es) ≡ with_params (ids_listed listed) es)
        (sym present-is)
        (found-in-order listed es (as_many ∙ sym listed-length) listed-differ))

  -- ---- creations

  default-bare_at : (class created arity : ℕ) → IsConstructorIn (files_view files) class arity (default_constructor created)
      → bare_constructor program (id_at files (numbered_class created)) ≡ None
  default-bare_at class created arity (IsConstructorIn.is_default has by_default) =
      let file = has-file files no_fault program filled created has in
      default-bare files no_fault program filled created file.0 file.1 arity by_default

  -- ---- readers

  module _ (at : PlacedMember) (is : HasFile files at.number at.file) where
    rightly : ReadsRightly (λ mention. true) (member_reader files at)
    rightly = let r = member-right files no_fault program filled trees (id_at files (numbered_class at.number)) at is in record {
      ordered = r.ordered;
      own = r.own;
      imports = r.imports;
      classes = λ class has. refl;
      fields = λ field stands. refl;
      methods = λ declared stands differs. refl;
      static_methods = λ declared stands static. refl;
      constructors = λ declared stands of. refl;
      params = λ id. refl;
    }

    pub member-tidied : ReadsTidily (params_at program) (bare_constructor program) (member_reader files at)
    member-tidied = record { rightly = rightly; calls = call-found; defaults = λ class arity is. default-bare_at class class arity is }

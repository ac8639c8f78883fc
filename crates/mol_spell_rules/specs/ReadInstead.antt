-- What a printed name reads as where it does not read as its target: of several names, the class or the member that the whole of them
-- reads as, and the class whose full name they begin (JLS 6.5.2).
use Rattle.std.specs.Prelude.{ℕ, [], ◌++◌, Option, Some, None}
use Rattle.std.specs.Option.{option_and_then}
use Rattle.mol_base.specs.declared.ident.Id.{Id}
use Rattle.mol_spell_rules.specs.references.References.{Target, field_target, param_target, local_target, outside_target}
use Rattle.mol_values_types.specs.declared.iexpr.IExpr.{IExpr, fold-IExpr}
use Rattle.mol_values_types.specs.declared.iexpr.IExpr.TheOpen.{IExpr-F, Argument-F}
use Rattle.jav_tree.specs.declared.expr.Expr.{Expr}
use Rattle.jav_names.specs.DottedNames.{Name, Names, Dotted}
use Rattle.jav_names.specs.Leftmost.{Leftmost, leftmost_variable, leftmost_class, leftmost_import, leftmost_outside}
use Rattle.jav_names.specs.LookUps.{leftmost, method_on}
use Rattle.mol_resolve_rules.specs.Locals.{Locals}
use Rattle.mol_resolve_rules.specs.Readers.{Reader, place_of}
use Rattle.mol_resolve_rules.specs.ReadTrees.{Meant, ClassPath, whole_path, front_path, no_path, reading, path_of}
use Rattle.mol_spell_rules.specs.Answers.{class_of, method_of, on_value_answer, method_through_answer, answer}
use Rattle.mol_spell_rules.specs.SpelledExpressions.{dot_tree, names_tree}
use Rattle.mol_spell_rules.specs.Writers.{Asked, path_asked, static_field_asked, static_method_asked, Reference}

-- what the last name of names with dots between them is the name of
abbrev pub word_step : IExpr-F (Option Target) (Option Target) → Option Target
word_step (IExpr-F.Local number) = Some (local_target number)
word_step (IExpr-F.Param id) = Some (param_target id)
word_step (IExpr-F.Own field) = Some (field_target field)
word_step (IExpr-F.StaticField field) = Some (field_target field)
word_step (IExpr-F.Field field e) = Some (field_target field)
word_step (IExpr-F.OutsideName name) = Some (outside_target name)
word_step (IExpr-F.OutsideClass full) = Some (outside_target full)
word_step (IExpr-F.OutsideField name e) = Some (outside_target name)
word_step e = None

abbrev pub argument_step : Argument-F (Option Target) (Option Target) → Option Target
argument_step argument = argument.value

abbrev pub word_target : IExpr → Option Target
word_target = fold-IExpr (Option Target) (Option Target) word_step argument_step

module _ (reader : Reader Id Id) (locals : Locals Id) where
  -- what names read as before these
  abbrev pub meant_before : Expr → Names → Option (Meant Id)
  meant_before e follow = ((reading reader e).means locals (Some follow)).value

  abbrev pub read_before : Expr → Names → Option Target
  read_before e follow = option_and_then (λ (value : Meant Id). word_target value.tree) (meant_before e follow)

  -- the class whose full name the leftmost of several names begins
  abbrev pub class_begun : Leftmost Id Id → Option Target
  class_begun (leftmost_variable variable) = None
  class_begun (leftmost_class class count) = Some (class_of reader class)
  class_begun (leftmost_import import) = None
  class_begun leftmost_outside = None

  -- names that spell a class, or begin the full name of one with those that follow, or a value
  abbrev pub path_instead : Dotted → Names → ClassPath Id → Option Target
  path_instead names follow (whole_path class) = Some (class_of reader class)
  path_instead names follow front_path =
      class_begun (leftmost reader.view (place_of reader locals) names.first (names.rest ++ follow))
  path_instead names follow no_path = read_before (names_tree names) follow

  -- a method after names
  abbrev pub method_instead : Dotted → Name → ℕ → ClassPath Id → Option Target
  method_instead path name arity (whole_path class) = method_through_answer reader name arity (whole_path class)
  method_instead path name arity front_path = None
  method_instead path name arity no_path = option_and_then
      (λ (value : Meant Id). on_value_answer reader name (method_of reader) (method_on reader.view name arity value.static_type))
      (meant_before (names_tree path) [])

  abbrev pub asked_instead : Asked → Option Target
  asked_instead (path_asked names follow) = path_instead names follow (path_of reader locals (Some names) follow)
  asked_instead (static_field_asked path name follow) = read_before (dot_tree (names_tree path) name) follow
  asked_instead (static_method_asked path name arity) = method_instead path name arity (path_of reader locals (Some path) [])
  asked_instead asked = answer reader locals asked

abbrev pub instead : Reader Id Id → Reference → Option Target
instead reader reference = asked_instead reader reference.locals reference.asked

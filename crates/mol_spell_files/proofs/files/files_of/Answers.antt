use Rattle.std.proofs.Common.{◌≡◌, ◌∙◌, ◌++◌, ◌∷◌, [], List, map, sym, ap}
use Rattle.std.proofs.lemmas.List.{map_push}
use Rattle.mol_base.specs.Files.{file_pair, file_pairs}
use Rattle.mol_spell_rules.specs.PrintedFiles.{printed_text}
use Rattle.mol_spell_rules.specs.SpelledUnits.{SpelledUnit}
use Rattle.mol_spell.specs.keys.Keys.{key_of}
use Rattle.mol_spell.specs.Spelt.{unit_at}
use Rattle.mol_spell_files.proofs.files.files_of.Goals as goal
use Rattle.mol_spell_files.specs.ProgramTexts.{printed_height, written_text}

-- one more is made of one key more
module _ {K U X : Type 0} (at : K → U) (of : U → X) where
  made-more : (keys : List K) (key : K) (made : List X) (x : X) → made ≡ map of (map at keys) → x ≡ of (at key)
      → made ++ x ∷ [] ≡ map of (map at (keys ++ key ∷ []))
  made-more keys key made x before is =
      (λ i. before i ++ is i ∷ []) ∙ sym (ap (map of) (map_push at keys key) ∙ map_push of (map at keys) (at key))

pub loop-key-preserved : goal.loop-key-preserved
loop-key-preserved c =
    let program = c.args.program.now in
    let keys = map key_of c.loop-key.yielded in
    let key = key_of c.in-Some.key in
    let more = sym (map_push key_of c.loop-key.yielded c.in-Some.key) in
    let before = map (unit_at program) keys in
    let printed = c.in_ok-file.ensures.text ∙ ap (λ (unit : SpelledUnit). written_text (printed_text unit)) c.in_ok-spelt.ensures in
    let height = c.in_ok-file.ensures.height ∙ ap printed_height c.in_ok-spelt.ensures in (
      ap file_pairs c.in_ok-push.ensures.items
          ∙ map_push file_pair c.loop-key.texts.items _
          ∙ made-more printed_text written_text before (unit_at program key) _ _ c.loop-key.invariant.0 printed
          ∙ ap (λ units. map written_text (map printed_text units)) (sym (map_push (unit_at program) keys key))
          ∙ ap (λ ks. map written_text (map printed_text (map (unit_at program) ks))) more,
      c.in_ok-push-2.ensures.items
          ∙ made-more (unit_at program) printed_height keys key _ _ c.loop-key.invariant.1 height
          ∙ ap (λ ks. map printed_height (map (unit_at program) ks)) more,
    )

-- Printed text parses back.
use Rattle.std.proofs.Common.{◌≡◌, ℕ, ◌<◌, ◌≤◌, min, List, refl, sym, ◌∙◌, arith}
use Rattle.mol_base.specs.Source.{IsSource}
use Rattle.mol_base.specs.Token.{Token}
use Rattle.jav_print_laws.specs.pieces.Pieces.{tokens_from}
use Rattle.jav_print_laws.proofs.pieces_lemmas.Tiled.{pieces_lex}
use Rattle.jav_tree.specs.declared.stmt.Block.{Block}
use Rattle.jav_tree.specs.Blocks.{block_of}
use Rattle.jav_tree.specs.Places.{unplaced_block}
use Rattle.jav_tree.specs.Places as places
use Rattle.jav_tree.specs.WithParens.{expr_with_parens, block_with_parens, unit_with_parens}
use Rattle.jav_tree.proofs.ChangedStatements.{block_alike}
use Rattle.jav_tree.proofs.Heights.{height_of_expression}
use Rattle.jav_tree.proofs.HeightsStatements.{height_of_body, height_of_unit}
use Rattle.jav_print_laws.specs.layout.ParsesBack.{UnitsParseBack, BodiesParseBack, ExprsParseBack, TypesParseBack}
use Rattle.jav_print_laws.proofs.layout_lemmas.BlockPhrases.{Unplacing, plain_step, plain_block}
use Rattle.jav_print_laws.proofs.layout_lemmas.BodyPhrases.{block_phrases}
use Rattle.jav_print_laws.proofs.layout_lemmas.Bytes.{any-breaks}
use Rattle.jav_print_laws.proofs.layout_lemmas.ExpressionPhrases.{whole}
use Rattle.jav_print_laws.proofs.layout_lemmas.Phrases.{Phrase}
use Rattle.jav_print_laws.proofs.layout_lemmas.SameDropped.{expr_same_dropped, block_same_dropped, unit_same_dropped}
use Rattle.jav_print_laws.proofs.layout_lemmas.SameHeights.{expr_height-same, block_height-same, unit_height-same}
use Rattle.jav_print_laws.proofs.layout_lemmas.StatementParts.{value}
use Rattle.jav_print_laws.proofs.layout_lemmas.UnitPhrases.{unit_phrase}

-- the text of a phrase is a source of its tokens, where it may stand by itself
phrase_source : {Is : List Token → Type 0} {May : ℕ → Type 0} {t : List ℕ} (p : Phrase Is May t) → May 0 → IsSource t (tokens_from 0 p.pieces)
phrase_source p alone = rw p.spelled at (pieces_lex p.pieces (p.fits 0 alone))

low_enough : (h g k max_height : ℕ) → g ≡ min h 0xffff_ffff → g ≡ k → k ≤ max_height → max_height < 0xffff_ffff → h ≤ max_height
low_enough h g k max_height counted same low small = omega arith

pub units_parse_back : UnitsParseBack
units_parse_back u limit max_height small is within =
    let p = unit_phrase limit u within.narrow is in
    let d = p.derives 0 in
    record {
      tokens = tokens_from 0 p.pieces;
      tree = d.tree;
      source = phrase_source p tt;
      parsed = (d.height, low_enough _ _ _ max_height (height_of_unit d.derived) (unit_height-same d.tree (unit_with_parens u) d.same) within.low small, d.derived);
      as_printed = d.same;
      dropped = unit_same_dropped d.tree u d.same;
    }

printed_block : (b : Block) → plain_block b ≡ unplaced_block (block_with_parens b)
printed_block b = sym (block_alike Unplacing expr_with_parens places.stmt_node_step plain_step (λ y. refl) b)

pub bodies_parse_back : BodiesParseBack
bodies_parse_back b limit max_height small is few low =
    let p = (block_phrases limit b few).body is 0 in
    let d = p.derives 0 in
    let tree = block_of d.tree.0 d.tree.1 in
    let same = d.same ∙ printed_block b in
    record {
      tokens = tokens_from 0 p.pieces;
      tree = tree;
      source = phrase_source p tt;
      parsed = (d.height, d.tree.0, d.tree.1, low_enough _ _ _ max_height (height_of_body d.derived) (block_height-same tree (block_with_parens b) same) low small, d.derived, refl);
      as_printed = same;
      dropped = block_same_dropped tree b same;
    }

pub exprs_parse_back : ExprsParseBack
exprs_parse_back e limit max_height small is few low =
    let p = value limit e few is in
    let d = p.derives 0 in
    record {
      tokens = tokens_from 0 p.pieces;
      tree = d.tree;
      source = phrase_source p refl;
      parsed = (d.height, low_enough _ _ _ max_height (height_of_expression d.derived) (expr_height-same d.tree (expr_with_parens e) d.same) low small, d.derived);
      as_printed = d.same;
      dropped = expr_same_dropped d.tree e d.same;
    }

pub types_parse_back : TypesParseBack
types_parse_back to limit is few = let p = whole limit to few is in record { tokens = tokens_from 0 p.pieces; source = phrase_source p (any-breaks 0 refl); parsed = p.derives 0 }

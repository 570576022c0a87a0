-- The objects that the items of a text name have names that are spelled as such.
use Rattle.std.proofs.Common.{ℕ, zero, suc, List, Option, Some, None, sym, subst}
use Rattle.std.specs.List.{AllByRecursion}
use Rattle.seq_objects.specs.declared.kind.Kind.{Kind}
use Rattle.seq_objects.specs.Verbs.{kind_of_verb}
use Rattle.job_names.specs.declared.name.Name.{Name}
use Rattle.job_syntax.specs.Text.{tokens}
use Rattle.job_syntax.specs.Words.{words_on_lines}
use Rattle.job_syntax.specs.ItemsOf.{AreItemsOf}
use Rattle.job_syntax.specs.Blocks.{word_number}
use Rattle.job_syntax.specs.Grammar.{Items, nothing, leaf_then, block_then, BlockKind, seq_block, par_block, for_loop, pfor_loop, Leaf, work, call, bound, leaf_words, items_words}
use Rattle.job_lang.specs.Objects.{NamedObject}
use Rattle.job_lang.specs.Meaning.{each_copy, in_block, object_named, object_of, objects_in}
use Rattle.job_lang.specs.Code.Numbered.{IsSpelled, AreSpelled}
use Rattle.seq_objects.proofs.Elements.{each_append}
use Rattle.job_lang.proofs.LimitLemmas.GoodWords.{NamesWell, SaysWell, good_words, parts, block_parts}

spelled_object : (kind : Kind) (name : Option Name) → NamesWell name → IsSpelled (object_named kind name)
spelled_object kind None h = tt
spelled_object kind (Some name) h = h

spelled_leaf : (l : Leaf) → AllByRecursion SaysWell (leaf_words l) → IsSpelled (object_of l)
spelled_leaf (work argument) each = tt
spelled_leaf (call verb object argument) each = spelled_object (kind_of_verb verb) object each.0
spelled_leaf (bound name given) each = spelled_leaf given each.1.1.1

spelled_copies : (copies : ℕ) (objects : List (Option NamedObject)) → AreSpelled objects → AreSpelled (each_copy copies (λ k. objects))
spelled_copies zero objects h = tt
spelled_copies (suc copies) objects h = each_append IsSpelled (each_copy copies (λ k. objects)) objects (spelled_copies copies objects h) h

spelled_block : (kind : BlockKind) (objects : List (Option NamedObject)) → AreSpelled objects → AreSpelled (in_block kind 0 (λ k. objects))
spelled_block seq_block objects h = h
spelled_block par_block objects h = h
spelled_block (for_loop copies) objects h = spelled_copies (word_number copies) objects h
spelled_block (pfor_loop copies) objects h = spelled_copies (word_number copies) objects h

spelled_items : (items : Items) → AllByRecursion SaysWell (items_words items) → AreSpelled (objects_in items)
spelled_items nothing each = tt
spelled_items (leaf_then l more) each = let both = parts (leaf_words l) (items_words more) each in (spelled_leaf l both.0, spelled_items more both.1)
spelled_items (block_then kind body more) each =
    let both = block_parts kind body more each in
    each_append IsSpelled (in_block kind 0 (λ k. objects_in body)) (objects_in more) (spelled_block kind (objects_in body) (spelled_items body both.0)) (spelled_items more both.1)

pub objects_spelled : (text : List ℕ) (items : Items) → AreItemsOf (words_on_lines text) items → AreSpelled (objects_in items)
objects_spelled text items read =
    spelled_items items (subst (AllByRecursion SaysWell) (sym read.derives.writes) (good_words (tokens text)))

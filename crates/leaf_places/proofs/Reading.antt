-- What is read again of an accepted text.
use Rattle.std.proofs.Common.{ℕ, ◌≡◌, ◌+◌, ◌≤◌, List, [], length, sym, ap, ◌∙◌, subst, arith}
use Rattle.std.proofs.lemmas.List.{length-map}
use Rattle.sp_order.specs.Jobs.{JobValue}
use Rattle.sp_order.proofs.ObjectLemmas.{same_length}
use Rattle.job_syntax.specs.declared.fault.JobFault.{JobFault}
use Rattle.job_syntax.specs.declared.lexer.word.WordOnLine.{WordOnLine}
use Rattle.job_syntax.specs.Faults.{IsReadingFault}
use Rattle.job_syntax.specs.Grammar.{Items, items_words}
use Rattle.job_syntax.specs.ItemsOf.{AreItemsOf}
use Rattle.job_syntax.specs.Words.{words_on_lines}
use Rattle.job_syntax.proofs.ParserLemmas.ReadingLaws.{one_items, items_or_fault}
use Rattle.job_lang.specs.Counts.{count}
use Rattle.job_lang.specs.Meaning.{acts_in, objects_in}
use Rattle.job_lang.specs.Objects.{numbers_of}
use Rattle.job_lang.specs.Language.{IsJobOf, Accepts}
use Rattle.job_lang.specs.Places.{placed_leaves}
use Rattle.job_lang.proofs.ExpandLemmas.Leaves.{acts_count}
use Rattle.job_lang.proofs.LetLemmas.Known.{placed_count}
use Rattle.leaf_places.specs.Places.{Place, lines_of, place_on, places_of, ArePlacesIn}
use Rattle.leaf_places.specs.Rows.{rows_text, AreRowsOf}

-- reading an accepted text finds no fault
pub no_fault : (text : List ℕ) (last : ℕ) (words : List WordOnLine) (found : JobFault) → words ≡ words_on_lines text → Accepts text → IsReadingFault last words found → ⊥
no_fault text last words found same accepted fault =
    let is = accepted.1 in
    items_or_fault last words is.items found (subst (λ w. AreItemsOf w is.items) (sym same) is.read) fault

-- the words of the items are as many as there are lines
pub all_within : (words : List WordOnLine) (items : Items) (lines : List ℕ) → AreItemsOf words items → lines ≡ lines_of words → 0 + length (items_words items) ≤ length lines
all_within words items lines read same =
    omega (arith, ap length read.derives.writes ∙ length-map words (λ token. token.word), ap length same ∙ length-map words (λ token. token.line))

one_places : (text : List ℕ) (job : JobValue) (is : IsJobOf text job) (places : List Place) → ArePlacesIn text places → places ≡ places_of (words_on_lines text) is.items
one_places text job is places are =
    are.are ∙ ap (places_of (words_on_lines text)) (one_items (words_on_lines text) are.items is.items are.read is.read)

-- there is a place for each leaf
pub as_many : (text : List ℕ) (job : JobValue) (places : List Place) → IsJobOf text job → ArePlacesIn text places → length places ≡ length job.acts
as_many text job places is are =
    let items = is.items in
    let placed : length places ≡ count items =
    ap length (one_places text job is places are) ∙ length-map (placed_leaves items) (place_on (lines_of (words_on_lines text))) ∙ placed_count items 0 [] in
    let acts : length job.acts ≡ count items =
    ap (λ (j : JobValue). length j.acts) is.means ∙ same_length (acts_in 0 items) (numbers_of (objects_in items)) ∙ acts_count items 0 in
    placed ∙ sym acts

-- the rows by the places of the text
pub rows_by : (text : List ℕ) (job : JobValue) (places : List Place) (rows : List ℕ) → IsJobOf text job → ArePlacesIn text places → rows ≡ rows_text job places → AreRowsOf text job rows
rows_by text job places rows is are same = record {
  is = is;
  are = same ∙ ap (rows_text job) (one_places text job is places are);
}

-- a text has one list of places, and one of rows

pub same_places : (text : List ℕ) (places places' : List Place) → ArePlacesIn text places → ArePlacesIn text places' → places ≡ places'
same_places text places places' are also =
    are.are ∙ ap (places_of (words_on_lines text)) (one_items (words_on_lines text) are.items also.items are.read also.read) ∙ sym also.are

pub same_rows : (text rows rows' : List ℕ) (job job' : JobValue) → job ≡ job' → AreRowsOf text job rows → AreRowsOf text job' rows' → rows ≡ rows'
same_rows text rows rows' job job' same are also =
    are.are ∙ ap (λ j. rows_text j (places_of (words_on_lines text) are.is.items)) same
    ∙ ap (λ items. rows_text job' (places_of (words_on_lines text) items)) (one_items (words_on_lines text) are.is.items also.is.items are.is.read also.is.read)
    ∙ sym also.are

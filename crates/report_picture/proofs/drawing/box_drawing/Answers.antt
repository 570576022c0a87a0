use Rattle.std.proofs.Common.{List, ℕ, [], ◌≡◌, ◌++◌, append_assoc, refl, ◌∙◌}
use Rattle.report_picture.specs.Code.Texts.{drawing_text}
use Rattle.report_picture.proofs.drawing.box_drawing.Goals as goal

-- nine texts, one behind another
nine : {t0 t1 t2 t3 t4 t5 t6 t7 t8 t9 : List ℕ} (a b c d e f g h i : List ℕ) → t0 ≡ [] → t1 ≡ t0 ++ a → t2 ≡ t1 ++ b → t3 ≡ t2 ++ c → t4 ≡ t3 ++ d → t5 ≡ t4 ++ e
    → t6 ≡ t5 ++ f → t7 ≡ t6 ++ g → t8 ≡ t7 ++ h → t9 ≡ t8 ++ i → t9 ≡ a ++ (b ++ (c ++ (d ++ (e ++ (f ++ (g ++ (h ++ i)))))))
nine a b c d e f g h i p0 p1 p2 p3 p4 p5 p6 p7 p8 p9 = simp (p9, p8, p7, p6, p5, p4, p3, p2, p1, p0, append_assoc) refl

pub returns : goal.returns
unfolding drawing_text
returns c =
    nine _ _ _ _ _ _ _ _ _ c.new-text.ensures.items c.in_ok-push_sheet.ensures c.in_ok-push_caption.ensures c.in_ok-push_ticks.ensures c.in_ok-push_lanes.ensures c.in_ok-push_group.ensures
    c.in_ok-push_strip_name.ensures c.in_ok-push_brackets.ensures c.in_ok-push_legend.ensures c.in_ok-push_text.ensures
    ∙ simp (c.rows-rows.ensures.rows, c.batches-book.ensures.batches, c.workers-workers.ensures.workers, c.across-right.ensures, c.requires.calls) refl

-- One glance more.
use Rattle.std.proofs.Common.{◌≡◌, ℕ, List, [], ◌∷◌, ◌++◌, refl, sym, ap, subst, ◌∙◌, append_assoc}
use Rattle.xti_base.specs.declared.kinds.Fd.{Fd}
use Rattle.xti_hall_rule.specs.declared.view.View.{View}
use Rattle.xti_model.specs.declared.entry.Entry.{Entry}
use Rattle.xti_gather.specs.Glances.{IsSameLater, Finds}
use Rattle.xti_gather.specs.declared.glancing.found.Glance.{Glance}
use Rattle.xti_poll.specs.Tables.{AreFound, line_text, table_text}

-- glances, and one after them
pub one_more : (v u w : View) (fds : List Fd) (gs : List Glance) (fd : Fd) (g : Glance) → AreFound v fds gs u → IsSameLater u w → Finds u w fd g → AreFound v (fds ++ fd ∷ []) (gs ++ g ∷ []) w
one_more v u w [] [] fd g f s h = (w, subst (λ (x : View). IsSameLater x w) f s, subst (λ (x : View). Finds x w fd g) f h, refl)
one_more v u w [] (x ∷ gs) fd g f s h = absurd f
one_more v u w (x ∷ fds) [] fd g f s h = absurd f
one_more v u w (x ∷ fds) (y ∷ gs) fd g f s h = (f.0, f.1, f.2, one_more f.0 u w fds gs fd g f.3 s h)

-- and the lines of all
pub line_more : (v u : View) (fds : List Fd) (gs : List Glance) (fd : Fd) (g : Glance) → AreFound v fds gs u → table_text (fds ++ fd ∷ []) (gs ++ g ∷ []) ≡ table_text fds gs ++ line_text fd g
line_more v u [] [] fd g f = simp append_assoc refl
line_more v u [] (x ∷ gs) fd g f = absurd f
line_more v u (x ∷ fds) [] fd g f = absurd f
line_more v u (x ∷ fds) (y ∷ gs) fd g f = ap (λ (l : List ℕ). line_text x y ++ l) (line_more f.0 u fds gs fd g f.3) ∙ sym (append_assoc (line_text x y) (table_text fds gs) (line_text fd g))

-- a seat later, and later again
pub later_still : (v u w : View) → IsSameLater v u → IsSameLater u w → IsSameLater v w
later_still v u w a b = record {
  setting = b.setting ∙ a.setting;
  number = b.number ∙ a.number;
  next = b.next ∙ a.next;
  mine = b.mine ∙ a.mine;
  mark = b.mark ∙ a.mark;
  journal = b.journal ∙ a.journal;
  seen = (a.seen.0 ++ b.seen.0, sym (append_assoc v.seen a.seen.0 b.seen.0) ∙ (ap (λ (l : List Entry). l ++ b.seen.0) a.seen.1 ∙ b.seen.1));
}

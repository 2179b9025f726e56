-- What a clean front's own end says: it is whole lines, and behind the format line and outside tables and sentences it is
-- refused by 13 exactly if ORIGIN or EDITOR is missing; a #BOS is then refused by 13 too.
use Prim.Native.Nat.{ℕ}
use native.Mathlib.Omega.{arith}
use mathlib.Core.Path.{◌≡◌, refl, sym, ap, ap₂, ◌∙◌, subst}
use mathlib.Core.Logic.{◌⊎◌, inl, inr, ◌↔◌}
use mathlib.Core.Bool.{Bool, true, false, ◌&&◌}
use Rattle.std.specs.Prelude.{Option, None, Some}
use mathlib.Core.List.{List}
use Rattle.rules.specs.Lists.{pick}
use Rattle.rules.specs.Tables.{Tables, Row, origins, editors, table, there, present}
use Rattle.rules.specs.Phases.{Phase, start, top, in_table, in_sentence, behind_sentence, at_end, tables_at}
use Rattle.rules.specs.Reading.{begin, read}
use Rattle.rules.specs.Survey.{Survey, survey_of}
use Rattle.rules.specs.Refusals.{Clean, AtItsEnd, EndRule}
use Rattle.rules.proofs.Conjunctions.{false_if_never}
use Rattle.rules.proofs.SaidOfLists.{and_both_ways, true_or_not, never_both}
use Rattle.rules.proofs.MeantTables.{present_meant}
use Rattle.rules.proofs.Kept.{both_present, PhaseKept}
use Rattle.rules.proofs.KeptReading.{bares, file_kept}
use Rattle.rules.proofs.CleanFronts.{survey_is, ends_by}
use Rattle.rules.proofs.LastLine.{front_lines}
use Rattle.rules.proofs.BadNumbers.{at_head}

not_present : (ts : Tables) → (table 0 ts ≡ None) ⊎ (table 1 ts ≡ None) → both_present ts ≡ true → ⊥
not_present ts l e = by l ((and_both_ways (present origins ts) (present editors ts)).0 e)
  where
    by : (table 0 ts ≡ None) ⊎ (table 1 ts ≡ None) → (present origins ts ≡ true) × (present editors ts ≡ true) → ⊥
    by (inl z) p = never_both true refl (sym p.0 ∙ ap there z)
    by (inr z) p = never_both true refl (sym p.1 ∙ ap there z)

pub is_absent : (t : Option (List Row)) → there t ≡ false → t ≡ None
is_absent None e = refl
is_absent (Some rs) e = absurd (never_both true refl e)

lacks : (ts : Tables) → both_present ts ≡ false → (table 0 ts ≡ None) ⊎ (table 1 ts ≡ None)
lacks ts e = by (true_or_not (present origins ts)) (true_or_not (present editors ts))
  where
    by : (present origins ts ≡ true) ⊎ (present origins ts ≡ false) → (present editors ts ≡ true) ⊎ (present editors ts ≡ false) → (table 0 ts ≡ None) ⊎ (table 1 ts ≡ None)
    by (inl p) (inl q) = absurd (never_both (both_present ts) ((and_both_ways (present origins ts) (present editors ts)).1 (p, q)) e)
    by (inl p) (inr q) = inr (is_absent (table 1 ts) q)
    by (inr p) q = inl (is_absent (table 0 ts) p)

module _ (front : List ℕ) (c : Clean front) where
  abbrev stands : Phase
  stands = (read begin front).phase

  its_tables : (survey_of front).tables ≡ tables_at stands
  its_tables = ap (λ (v : Survey). v.tables) (survey_is front c.fits)

  end_numbers : (phase : Phase) → AtItsEnd (at_end phase)
  end_numbers start = inr (inl refl)
  end_numbers (top p) = by (both_present p.tables)
    where
      by : (t : Bool) → AtItsEnd (pick t 0 13)
      by true = inl refl
      by false = inr (inr (inl refl))
  end_numbers (in_table p n rs) = inr (inr (inr refl))
  end_numbers (in_sentence p s) = inr (inr (inr refl))
  end_numbers (behind_sentence p) = inl refl

  thirteen : (phase : Phase) → PhaseKept phase (bares (read begin front).handed) → (at_end phase ≡ 9 → ⊥) → (at_end phase ≡ 23 → ⊥)
      → (at_end phase ≡ 13) ↔ ((table 0 (tables_at phase) ≡ None) ⊎ (table 1 (tables_at phase) ≡ None))
  thirteen start k a b = absurd (a refl)
  thirteen (top p) k a b = (λ e. lacks p.tables (which (both_present p.tables) e), λ l. rw (false_if_never (both_present p.tables) (not_present p.tables l)))
    where
      which : (t : Bool) → ◌≡◌ {A = ℕ} (pick t 0 13) 13 → t ≡ false
      which true e = absurd (omega arith)
      which false e = refl
  thirteen (in_table p n rs) k a b = absurd (b refl)
  thirteen (in_sentence p s) k a b = absurd (b refl)
  thirteen (behind_sentence p) k a b =
      let there_both : both_present p.tables ≡ true = sym (ap₂ ◌&&◌ (present_meant origins p.tables) (present_meant editors p.tables)) ∙ k.both in
      (λ e. absurd (omega arith), λ l. absurd (not_present p.tables l there_both))

  pub missing_tables : EndRule front
  missing_tables =
      record {
        whole_lines = front_lines front c;
        at_head = λ e n editor date origin l k wn we wd wo x fits. at_head front c n editor date origin l k e wn we wd wo x fits;
        numbers = subst AtItsEnd (sym (ends_by front c)) (end_numbers stands);
        missing =
            λ a b.
            let t = thirteen stands (file_kept front).phase (λ e. a (ends_by front c ∙ e)) (λ e. b (ends_by front c ∙ e)) in (
              λ r. subst (λ (ts : Tables). (table 0 ts ≡ None) ⊎ (table 1 ts ≡ None)) (sym its_tables) (t.0 (sym (ends_by front c) ∙ r.refusal)),
              λ l. record { refusal = ends_by front c ∙ t.1 (subst (λ (ts : Tables). (table 0 ts ≡ None) ⊎ (table 1 ts ≡ None)) its_tables l); at = c.place },
            );
      }

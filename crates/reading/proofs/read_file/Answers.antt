-- `reading::read_file` meets its contract.
use Prim.Native.Nat.{ℕ}
use mathlib.Core.Path.{◌≡◌, sym, ap, ◌∙◌}
use mathlib.Core.List.{List, []}
use lib.ListN.{length, replicate, length-replicate}
use Rattle.rules.specs.Reading.{begin, read}
use Rattle.rules.specs.Index.{beginnings}
use Rattle.seen.proofs.SeenSets.{seen_set_none}
use Rattle.table_sheet.proofs.OpenSheets.{sheet_empty}
use Rattle.reading.specs.declared.Reached.{Reached}
use Rattle.reading.specs.declared.Read.{Read}
use Rattle.reading.proofs.Begins.{begins_none}
use Rattle.reading.proofs.read_file.Goals as goal

as_long : {n : ℕ} {l : List ℕ} → l ≡ replicate n 0 → length l ≡ n
as_long {n} e = ap length e ∙ length-replicate {A = ℕ} n 0

abbrev answer_of : Reached → Read
answer_of x = record { refusal = x.fault.number; place = x.fault.place; sentences = x.state.handed; sound_end = x.state.sound_end }

pub take_lines-reached-requires : goal.take_lines-reached-requires
take_lines-reached-requires c =
    let e = c.clear-3.ensures in (
      c.requires.0,
      c.clear.ensures ∙ ap (λ (n : ℕ). replicate n 0) c.requires.1 ∙ sym sheet_empty,
      c.clear-2.ensures ∙ ap (λ (n : ℕ). replicate n 0) c.requires.2 ∙ sym seen_set_none,
      e ∙ sym (begins_none c.args.from (length c.args.begins.now)) ∙ ap (λ (n : ℕ). beginnings c.args.from n []) (sym (as_long e)),
    )

pub give_up-requires : goal.give_up-requires
give_up-requires c =
    let w = c.take_lines-reached.ensures in
    (w.place, w.sheet_size)

pub returns : goal.returns
returns c =
    let w = c.take_lines-reached.ensures in
    record {
      answer = ap answer_of w.reached_is;
      tables_are = c.give_up.ensures ∙ w.given_up_lem;
      seen_is = w.seen_is;
      begins_are = w.begins_is ∙ ap (λ (n : ℕ). beginnings c.args.from n (read begin c.args.file.now).handed) (as_long c.clear-3.ensures);
    }

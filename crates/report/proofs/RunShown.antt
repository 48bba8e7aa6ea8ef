-- The run that is told of an assignment that is in.
use Rattle.std.proofs.Common.{◌≡◌, ℕ, ◌+◌, true, List, ◌++◌, length, take, Ok, sym, refl, ap, ◌∙◌, subst}
use Rattle.std.proofs.lemmas.List.{take_at}
use Rattle.std.proofs.lemmas.Bool.{eqb-true}
use Rattle.bounded.specs.Items.{items}
use Rattle.sinks.specs.Models.{assigned}
use Rattle.mtl.specs.Tables.{Asked, lawful}
use Rattle.job.specs.Calls.{State}
use Rattle.job.specs.Runs.{Shows}
use Rattle.job.proofs.Accepted.{Yes, all_yes}
use Rattle.witness.specs.Shown.{run_asks, run_answer, LettersShown}
use Rattle.witness.proofs.Trips.{refill}
use Rattle.report.specs.declared.outcome.Report.TheVariants.{Shown}
use Rattle.report.specs.declared.outcome.ShownRun.{ShownRun}
use Rattle.report.specs.Reports.{Outcome, ByRun}

module _ (s : State) (area : List ℕ) (l : ℕ) (x : ShownRun) (letters : List ℕ) (room : ℕ) (answer : Ok l ≡ run_answer s area room) where
  yes : Yes (run_asks s area room)
  yes = (all_yes (run_asks s area room) _ l (sym answer)).1

  room_is : room ≡ s.bound + 1
  room_is = eqb-true room (s.bound + 1) yes.1.0

  pub run_told : x.start ≡ l → items x.letters ≡ letters → length letters ≡ room → lawful s.rows ≡ true → Asked s.bound (length s.rows) s.kept → (s.begun ≡ true → Shows s (assigned area)) → LettersShown s.bound (assigned area) s.rows letters → (r : Outcome) → r ≡ Ok (Shown x) → ByRun s area (run_answer s area (s.bound + 1)) r
  run_told start is long law asked shows told r comes =
      let all = subst (λ ls. LettersShown s.bound (assigned area) s.rows ls) (sym is) told in
      let again = refill s area l room (items x.letters) law asked (shows yes.0) (sym answer) all in
      subst (λ a. ByRun s area a r) (answer ∙ ap (run_answer s area) room_is)
      (x, comes, record { instants = ap length is ∙ long ∙ room_is; start = start; letters = all; inside = again.inside; obeys = again.obeys })

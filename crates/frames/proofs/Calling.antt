-- The calls of a script are what its kinds read and write.
use Rattle.std.proofs.Common.{◌≡◌, ℕ, Bool, true, false, cond, ◌||◌, eqb, List, length, get_or, IfOk, Ok, Err, Result, sym, refl, ap, ◌∙◌, subst, arith}
use Rattle.std.proofs.lemmas.Bool.{eqb-true, eq-eqb}
use Rattle.cnf.specs.Questions.{first_no}
use Rattle.frames.specs.declared.refusals.Refusal.{Refusal}
use Rattle.frames.specs.declared.refusals.Refusal.TheVariants.{Kind, Length}
use Rattle.calls.specs.declared.Call.{Call}
use Rattle.calls.specs.declared.Call.TheVariants.{Begin, Define, Require}
use Rattle.frames.specs.Layouts.{Layout, Lawful, begin_layout, define_layout, require_layout}
use Rattle.frames.specs.Lines.{framed, mapped, kind_asks, reading}
use Rattle.frames.specs.Script.{in_script, by_kind, call_asks, call_in, calling, written_call}
use Rattle.frames.specs.Written.{written}
use Rattle.frames.proofs.Framing.{after, after-bytes}
use Rattle.frames.specs.Lawfulness.{begin_lawful, define_lawful, require_lawful}
use Rattle.frames.proofs.Sealing.{read_as, back_at}

-- the call in the bytes of a frame, by questions 3 and 4
abbrev pub called : List ℕ → Result Call Refusal
called bs = first_no (call_asks bs) (call_in bs)

-- the length and the call that the kinds of scripts give for a code
abbrev size_at : ℕ → ℕ
size_at code = by_kind code begin_layout.size define_layout.size require_layout.size

abbrev call_at : ℕ → List ℕ → Call
call_at code bs = by_kind code (Begin (begin_layout.fields bs)) (Define (define_layout.fields bs)) (Require (require_layout.fields bs))

-- k is a kind of scripts, and its records are calls
pub record Scripted {R : Type 0} (k : Layout R) (call : R → Call) : Type 0 where
  pub lawful : Lawful k
  pub known : in_script k.code ≡ true
  pub sized : size_at k.code ≡ k.size
  pub gives : (bs : List ℕ) → call_at k.code bs ≡ call (k.fields bs)
  pub line : (x : R) → written_call (call x) ≡ written k x

pub begin_scripted : Scripted begin_layout Begin
begin_scripted = record { lawful = begin_lawful; known = refl; sized = refl; gives = λ bs. refl; line = λ x. refl }

pub define_scripted : Scripted define_layout Define
define_scripted = record { lawful = define_lawful; known = refl; sized = refl; gives = λ bs. refl; line = λ x. refl }

pub require_scripted : Scripted require_layout Require
require_scripted = record { lawful = require_lawful; known = refl; sized = refl; gives = λ bs. refl; line = λ x. refl }

made_mapped : {X Y E : Type 0} (f : X → Y) (r : Result X E) (P : Y → Type 0) → IfOk r (λ x. P (f x)) → IfOk (mapped f r) P
made_mapped f (Ok x) P h = h
made_mapped f (Err e) P h = tt

module _ {R : Type 0} (k : Layout R) (call : R → Call) (s : Scripted k call) where
  -- a frame of the kind is called as it is read
  pub called_as : (bs : List ℕ) → get_or bs 0 0 ≡ k.code → called bs ≡ mapped call (read_as k bs)
  called_as bs e =
      ap (λ c. cond (in_script c) (cond (eqb (length bs) (size_at c)) (Ok (call_at c bs)) (Err Length)) (Err Kind)) e
      ∙ ap (λ b. cond b (cond (eqb (length bs) (size_at k.code)) (Ok (call_at k.code bs)) (Err Length)) (Err Kind)) s.known
      ∙ ap (λ n. cond (eqb (length bs) n) (Ok (call_at k.code bs)) (Err Length)) s.sized
      ∙ ap (λ c. cond (eqb (length bs) k.size) (Ok c) (Err Length)) (s.gives bs)
      ∙ over (eqb (length bs) k.size)
      ∙ sym (ap (λ b. mapped call (cond b (cond (eqb (length bs) k.size) (Ok (k.fields bs)) (Err Length)) (Err Kind))) (eq-eqb (get_or bs 0 0) k.code e))
    where
      over : (b : Bool) → ◌≡◌ {A = Result Call Refusal} (cond b (Ok (call (k.fields bs))) (Err Length)) (mapped call (cond b (Ok (k.fields bs)) (Err Length)))
      over true = refl
      over false = refl

  -- a line that the kind reads is that call
  call_read : (line : List ℕ) (x : R) → reading k line ≡ Ok x → calling line ≡ Ok (call x)
  call_read line x e = after-bytes call_asks call_in line ∙ at (framed line) (sym (after-bytes (kind_asks k) k.fields line) ∙ e)
    where
      pick : (bs : List ℕ) (b : Bool) → eqb (get_or bs 0 0) k.code ≡ b → read_as k bs ≡ Ok x → cond b (cond (eqb (length bs) k.size) (Ok (k.fields bs)) (Err Length)) (Err Kind) ≡ Ok x → called bs ≡ Ok (call x)
      pick bs true t h _ = called_as bs (eqb-true (get_or bs 0 0) k.code t) ∙ ap (mapped call) h
      pick bs false t _ h = let z : ◌≡◌ {A = ℕ} 0 1 = cc in absurd (omega arith)

      at : (r : Result (List ℕ) Refusal) → after r (read_as k) ≡ Ok x → after r called ≡ Ok (call x)
      at (Ok bs) h = pick bs (eqb (get_or bs 0 0) k.code) refl h h
      at (Err d) h = let z : ◌≡◌ {A = ℕ} 0 1 = cc in absurd (omega arith)

  -- the line that is written for a record is read as its call
  pub back : (line : List ℕ) (x : R) (c : Call) → c ≡ call x → reading k line ≡ Ok x → calling line ≡ Ok c
  back line x c e r = call_read line x r ∙ ap Ok (sym e)

  back_as : (line bs : List ℕ) → framed line ≡ Ok bs → get_or bs 0 0 ≡ k.code → IfOk (called bs) (λ c. written_call c ≡ line)
  back_as line bs f e =
      let P : Call → Type 0 = λ c. written_call c ≡ line in
      let r : IfOk (read_as k bs) (λ x. P (call x)) = weaker (read_as k bs) (back_at k s.lawful line bs f) in
      subst (λ r. IfOk r P) (sym (called_as bs e)) (made_mapped call (read_as k bs) P r)
    where
      weaker : (r : Result R Refusal) → IfOk r (λ x. written k x ≡ line) → IfOk r (λ x. written_call (call x) ≡ line)
      weaker (Ok x) h = s.line x ∙ h
      weaker (Err e) h = tt

back_bytes : (line bs : List ℕ) → framed line ≡ Ok bs → IfOk (called bs) (λ c. written_call c ≡ line)
back_bytes line bs f = pick (eqb (get_or bs 0 0) begin_layout.code) (eqb (get_or bs 0 0) define_layout.code) (eqb (get_or bs 0 0) require_layout.code) refl refl refl
  where
    pick : (a b c : Bool) → eqb (get_or bs 0 0) begin_layout.code ≡ a → eqb (get_or bs 0 0) define_layout.code ≡ b → eqb (get_or bs 0 0) require_layout.code ≡ c → IfOk (called bs) (λ c. written_call c ≡ line)
    pick true b c p q r = back_as begin_layout Begin begin_scripted line bs f (eqb-true (get_or bs 0 0) begin_layout.code p)
    pick false true c p q r = back_as define_layout Define define_scripted line bs f (eqb-true (get_or bs 0 0) define_layout.code q)
    pick false false true p q r = back_as require_layout Require require_scripted line bs f (eqb-true (get_or bs 0 0) require_layout.code r)
    pick false false false p q r =
        let n : in_script (get_or bs 0 0) ≡ false = ap (λ b. b || (eqb (get_or bs 0 0) define_layout.code || eqb (get_or bs 0 0) require_layout.code)) p ∙ ap (λ b. b || eqb (get_or bs 0 0) require_layout.code) q ∙ r in
        subst (λ b. IfOk (cond b (cond (eqb (length bs) (size_at (get_or bs 0 0))) (Ok (call_in bs)) (Err Length)) (Err Kind)) (λ c. written_call c ≡ line)) (sym n) tt

call_back : (line : List ℕ) → IfOk (calling line) (λ c. written_call c ≡ line)
call_back line = subst (λ r. IfOk r (λ c. written_call c ≡ line)) (sym (after-bytes call_asks call_in line)) (at (framed line) refl)
  where
    at : (r : Result (List ℕ) Refusal) → framed line ≡ r → IfOk (after r called) (λ c. written_call c ≡ line)
    at (Ok bs) f = back_bytes line bs f
    at (Err e) f = tt

-- what is called is written as the same line
pub call_made : (line : List ℕ) (r : Result Call Refusal) → r ≡ calling line → IfOk r (λ c. written_call c ≡ line)
call_made line r e = subst (λ q. IfOk q (λ c. written_call c ≡ line)) (sym e) (call_back line)

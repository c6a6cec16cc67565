-- How a service ends.
use Rattle.std.proofs.Common.{◌≡◌, ℕ, ◌+◌, ◌≤◌, List, [], ◌++◌, length, take, refl, sym, subst, append-nil, inl, inr}
use Rattle.std.proofs.Common.{length-append, arith}
use Rattle.std.specs.Prelude.{Bool, false, Option, Result, Ok, Err, OnOk, OnErr, IfErr}
use Rattle.std.specs.Io.KnownBytes.{Consumes, IsAtEnd}
use Rattle.std.proofs.lemmas.List.{length-take-le}
use Rattle.firm_text.specs.Cutters.{CutterIs}
use Rattle.firm_table.specs.Opened.{Opened}
use Rattle.firm_table.specs.Service.{AnswersFrom, BeginsAnswersFrom, ServedFrom, StoppedFrom, IsCause, device}
use Rattle.firm_table.specs.Telling.{Telling}
use Rattle.firm_table.specs.Service.{IsWritingFault}
use Rattle.firm_table.specs.inner.Reading.{Heard, Halted}
use Rattle.firm_table.specs.declared.faults.ServeFault.{ServeFault}
use Rattle.firm_table.specs.declared.faults.ServeFault.TheVariants.{Read, Write, TooLong, Memory}

-- two facts where a call went well, and two where it did not
pub both_ok : {T E : Type 0} (r : Result T E) (P Q : Type 0) → OnOk r P → OnOk r Q → OnOk r (P × Q)
both_ok (Ok x) P Q p q = (p, q)
both_ok (Err e) P Q p q = tt

pub both_err : {T E : Type 0} (r : Result T E) (P : Type 0) (Q S : E → Type 0) → OnErr r P → IfErr r Q
    → (P → (e : E) → Q e → S e) → IfErr r S
both_err (Ok x) P Q S p q f = tt
both_err (Err e) P Q S p q f = f p e q

-- what follows from a fault's fact
pub err_weaker : {T E : Type 0} (r : Result T E) (P Q : E → Type 0) → ((e : E) → P e → Q e) → IfErr r P → IfErr r Q
err_weaker (Ok x) P Q f p = tt
err_weaker (Err e) P Q f p = f e p

-- the cause of a fault where no read failed
pub cause_writing : (fault : ServeFault) (input : List ℕ) (most : ℕ) (read_failed write_failed : Bool)
    → read_failed ≡ false
    → IsWritingFault fault write_failed → IsCause fault input most read_failed write_failed
cause_writing Read input most read_failed write_failed well p = absurd p
cause_writing Write input most read_failed write_failed well p = (well, p)
cause_writing TooLong input most read_failed write_failed well p = absurd p
cause_writing Memory input most read_failed write_failed well p = (well, p)

-- such a fault is no fault of a read
pub not_reading : (fault : ServeFault) (write_failed : Bool) → IsWritingFault fault write_failed → fault ≡ Read → ⊥
not_reading fault write_failed p reading =
    subst (λ (f : ServeFault). IsWritingFault f write_failed) reading p

pub not_too_long : TooLong ≡ Read → ⊥
not_too_long reading = cc

-- the bytes read so far, with those of one more read
pub more_heard : (heard buffer : List ℕ) (number count : ℕ) → length heard ≡ number → count ≤ length buffer
    → length (heard ++ take count buffer) ≡ number + count
more_heard heard buffer number count e within =
    let both = length-append heard (take count buffer) in
    let front = length-take-le count buffer within in
    omega (arith, e, both, front)

-- what was read stays what was read where what is left does
pub still_read : (first left later : Option (List ℕ)) (text : List ℕ) → later ≡ left → Consumes first left text
    → Consumes first later text
still_read first left later text e = subst (λ (x : Option (List ℕ)). Consumes first x text) (sym e)

-- a claim about each text after a call holds of the bytes read
pub heard_told : (IsTold Later : Telling) (cut : CutterIs) (heard : List ℕ) (written now later : Option (List ℕ))
    → Heard IsTold cut heard written now
    → ((text : List ℕ) (before : Option (List ℕ)) → IsTold text before now → Later text before later)
    → Heard Later cut heard written later
heard_told IsTold Later cut heard written now later h told = record {
  text = h.text;
  rest = h.rest;
  both = h.both;
  ended = h.ended;
  stands = h.stands;
  told = told h.text written h.told;
}

module _ (opened : Opened) (most : ℕ) (left left_after written now : Option (List ℕ))
    (read_failed write_failed : Bool) (heard : List ℕ) where
  -- between two lines, or at a line that was cut off
  pub stopped_within : (fault : ServeFault) → Consumes left left_after heard → (h : Halted opened heard written now)
      → IsCause fault heard most read_failed write_failed
      → StoppedFrom opened most (device left left_after read_failed) (device written now write_failed) fault
  stopped_within fault read h cause = record {
    answered = h.answered;
    rest = h.rest;
    read = subst (Consumes left left_after) h.both read;
    whole = inl h.ends;
    cause = subst (λ (l : List ℕ). IsCause fault l most read_failed write_failed) h.both cause;
    begins = h.begins;
  }

  -- after the end of the input
  pub stopped_behind : (fault : ServeFault) → Consumes left left_after heard → IsAtEnd left_after → read_failed ≡ false
      → BeginsAnswersFrom opened heard written now
      → IsWritingFault fault write_failed → StoppedFrom opened most (device left left_after read_failed)
      (device written now write_failed) fault
  stopped_behind fault read at_end well begins cause = record {
    answered = heard;
    rest = [];
    read = subst (Consumes left left_after) (sym (append-nil heard)) read;
    whole = inr (refl, at_end, well);
    cause = cause_writing fault (heard ++ []) most read_failed write_failed well cause;
    begins = begins;
  }

  pub served : Consumes left left_after heard → IsAtEnd left_after → length heard ≤ most
      → AnswersFrom opened heard written now → read_failed ≡ false
      → write_failed ≡ false
      → ServedFrom opened most (device left left_after read_failed) (device written now write_failed)
  served read at_end within answers reads writes = record {
    input = heard;
    read = read;
    at_end = at_end;
    within = within;
    answers = answers;
    reads = reads;
    writes = writes;
  }

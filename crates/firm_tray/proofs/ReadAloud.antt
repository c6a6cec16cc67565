-- The states that the rule of a tray allows, read one by one.
use Rattle.std.proofs.Common.{◌≡◌, refl, ap, arith, inl, inr}
use Rattle.firm_rules.specs.Book.{Book}
use Rattle.firm_tray.specs.declared.protocol.Stage.TheVariants.{Opening, Holding, Open, Spent, Asked, Taken}
use Rattle.firm_tray.specs.Rule.{Phase, fresh, dealt, waiting, answered, gone, Tray, tray_at}
use Rattle.firm_tray.specs.Rule.{KeepsRule}
use Rattle.firm_tray.specs.Reading.{Reads, one_seat, two_seats}

words_of : (book : Book) (state : Tray) (phase : Phase) → state ≡ tray_at book phase
    → state.words ≡ (tray_at book phase).words
words_of book state phase e = ap (λ (s : Tray). s.words) e

seats_of : (book : Book) (state : Tray) (phase : Phase) → state ≡ tray_at book phase
    → state.views ≡ (tray_at book phase).views
seats_of book state phase e = ap (λ (s : Tray). s.views) e

pub reads : (book : Book) (state : Tray) → KeepsRule book state → Reads book state
reads book state (fresh, e, fair) =
    one_seat Opening
    (record { word = words_of book state fresh e; before = inl refl; one_book = seats_of book state fresh e })
reads book state (dealt, e, fair) =
    one_seat Holding
    (record { word = words_of book state dealt e; before = inr refl; one_book = seats_of book state dealt e })
reads book state (waiting vain, e, fair) =
    two_seats 0 vain Open Asked (record {
      one_word = words_of book state (waiting vain) e;
      small = omega arith;
      answers = inl refl;
      asks = inl refl;
      one_book = seats_of book state (waiting vain) e;
      opens = ((λ _. refl), (λ _. refl));
      takes = ((λ (t : Asked ≡ Taken). cc), (λ (t : 0 ≡ 2). absurd (omega (arith, t))));
      solved = λ (t : 0 ≡ 1). absurd (omega (arith, t));
    })
reads book state (answered vain answer, e, fair) =
    two_seats 1 vain Spent Asked (record {
      one_word = words_of book state (answered vain answer) e;
      small = omega arith;
      answers = inr refl;
      asks = inl refl;
      one_book = seats_of book state (answered vain answer) e;
      opens = ((λ (t : Spent ≡ Open). cc), (λ (t : 1 ≡ 0). absurd (omega (arith, t))));
      takes = ((λ (t : Asked ≡ Taken). cc), (λ (t : 1 ≡ 2). absurd (omega (arith, t))));
      solved = λ _. (answer, ap (λ (s : Tray). s.homes) e, fair);
    })
reads book state (gone vain, e, fair) =
    two_seats 2 vain Spent Taken (record {
      one_word = words_of book state (gone vain) e;
      small = omega arith;
      answers = inr refl;
      asks = inr refl;
      one_book = seats_of book state (gone vain) e;
      opens = ((λ (t : Spent ≡ Open). cc), (λ (t : 2 ≡ 0). absurd (omega (arith, t))));
      takes = ((λ _. refl), (λ _. refl));
      solved = λ (t : 2 ≡ 1). absurd (omega (arith, t));
    })

-- Tenants that agree so far have replied alike so far.
use Rattle.std.proofs.Common.{◌≡◌, ℕ, zero, suc, List, [], ◌∷◌, ◌++◌, sym, ap, ◌∙◌, take}
use Rattle.std.specs.Prelude.{Bool, Some, map, slice_get}
use Rattle.firm_rules.specs.Book.{Book, opening_book}
use Rattle.firm_rules.specs.declared.commands.Command.{Command}
use Rattle.firm_rules.specs.declared.replies.Reply.{Reply}
use Rattle.firm_tenant.specs.Laws.{RepliesTellTheirMarks}
use Rattle.firm_tenant.specs.Step.{step}
use Rattle.firm_tenant.specs.Alone.{replies_from}
use Rattle.firm_table.specs.Places.{Given}
use Rattle.firm_table.specs.Histories.{AreFirstReplies, EventsAreIsolated}
use Rattle.firm_table.proofs.Machine.{events_keep_alone}

same_reply : (book : Book) (given other : List Given) (waiting later : List Command) (k : ℕ) (reply other_reply : Reply)
    → take (suc k) (map (λ g. g.0) given ++ waiting) ≡ take (suc k) (map (λ g. g.0) other ++ later)
    → take (suc k) (map (λ g. g.1) given) ≡ take (suc k) (map (λ g. g.1) other)
    → slice_get (replies_from book given) k ≡ Some reply → slice_get (replies_from book other) k ≡ Some other_reply
    → reply ≡ other_reply
same_reply book [] other waiting later k reply other_reply commands marks e f = cc
same_reply book (g ∷ given) [] waiting later k reply other_reply commands marks e f = cc
same_reply book (g ∷ given) (h ∷ other) waiting later zero reply other_reply commands marks e f =
    let command : g.0 ≡ h.0 = cc in
    let mark : g.1 ≡ h.1 = cc in
    let now : (step book g.0 g.1).0 ≡ reply = cc in
    let then_other : (step book h.0 h.1).0 ≡ other_reply = cc in
    sym now ∙ ap (λ (c : Command). (step book c g.1).0) command ∙ ap (λ (m : Bool). (step book h.0 m).0) mark
    ∙ then_other
same_reply book (g ∷ given) (h ∷ other) waiting later (suc k) reply other_reply commands marks e f =
    let command : g.0 ≡ h.0 = cc in
    let mark : g.1 ≡ h.1 = cc in
    let commands_then : take (suc k) (map (λ g. g.0) given ++ waiting)
    ≡ take (suc k) (map (λ g. g.0) other ++ later) = cc in
    let marks_then : take (suc k) (map (λ g. g.1) given) ≡ take (suc k) (map (λ g. g.1) other) = cc in
    let after : (step book h.0 h.1).1 ≡ (step book g.0 g.1).1 =
    sym (ap (λ (c : Command). (step book c g.1).1) command ∙ ap (λ (m : Bool). (step book h.0 m).1) mark) in
    same_reply (step book g.0 g.1).1 given other waiting later k reply other_reply commands_then marks_then e
    (sym (ap (λ (b : Book). slice_get (replies_from b other) k) after) ∙ f)

pub events_are_isolated : RepliesTellTheirMarks → EventsAreIsolated
events_are_isolated told roster other_roster workers other_workers place other_place stay other_stay events other_events
    history other is other_is limits k reply other_reply commands marks e f =
    let first : AreFirstReplies history = (events_keep_alone told roster workers place stay events history is).0 in
    let second : AreFirstReplies other =
    (events_keep_alone told other_roster other_workers other_place other_stay other_events other other_is).0 in
    same_reply (opening_book history.limits) first.given second.given first.waiting second.waiting k reply other_reply
    (ap (take (suc k)) (sym first.commands) ∙ commands ∙ ap (take (suc k)) second.commands)
    (ap (take (suc k)) first.marks ∙ marks ∙ ap (take (suc k)) (sym second.marks))
    (sym (ap (λ (rs : List Reply). slice_get rs k) first.replies) ∙ e)
    (ap (λ l. slice_get (replies_from (opening_book l) second.given) k) limits
    ∙ sym (ap (λ (rs : List Reply). slice_get rs k) second.replies) ∙ f)

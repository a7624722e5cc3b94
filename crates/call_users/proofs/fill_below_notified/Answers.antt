-- `fill_below_notified`: with managers the flags are those of the trades' bearers; without them each user bears its own risk. Assumes nothing.
use Rattle.base.specs.Basics.{◌≡◌, refl, sym, ap, ◌∙◌}
use Rattle.book_format.specs.Book.{version_of}
use Rattle.call_parties.proofs.Borne.{plain_in}
use Rattle.rules.specs.Areas.{managers_in}
use Rattle.call_users.proofs.fill_below_notified.Goals as goal
use Rattle.call_users.proofs.fill_below_notified.Goals.{After-has_managers}

-- whether the version has managers
managed : (h : goal.After-has_managers) → h.has_managers.result ≡ managers_in (version_of h.args.book.now)
managed h = h.has_managers.ensures ∙ ap managers_in h.version.ensures

pub bear_managed-requires : goal.bear_managed-requires
bear_managed-requires c = record { book_in = (c.requires.0, sym (managed (goal.at.bear_managed-requires c).After-has_managers) ∙ c.if-has_managers.true); bearing_sellers_len = (refl, refl) }

pub fill_below_notified-requires-else-has_managers : goal.fill_below_notified-requires-else-has_managers
fill_below_notified-requires-else-has_managers c = let b = c.requires.0 in
    record { borne_in = (plain_in c.args.book.now b.accepted (sym (managed (goal.at.fill_below_notified-requires-else-has_managers c).After-has_managers) ∙ c.if-has_managers.false) b, c.user_count-n.ensures, c.trade_count-m.ensures); below_notified_value = c.requires.1 }

use Rattle.std.proofs.Common.{[]}
use Rattle.world_tests.proofs.ahead_tests.the_listing_of_a_page_is_handed.Given as goal

-- The log that was just opened, and the journal of no change.
abbrev pub ghosts-client_hands_its_listings : goal.ghosts-client_hands_its_listings
ghosts-client_hands_its_listings g a = record { book = a.opened.seen.book; first = [] }

-- What showing a record or a trade after the opening questions gives of a request, whose the matter of a call is, and calls with a lent log.
mod Part
mod Opened
mod Logs
